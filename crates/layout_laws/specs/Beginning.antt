-- Memory represents the objects that are there from the start, of which builtin exceptions alone are seen.
use Rattle.std.specs.Prelude.{◌≡◌, ◌<◌, ◌^◌, ℕ, zero, suc, ◌+◌, ◌-◌, ◌&&◌, nat_le, nat_lt, Bool, true, List, [], ◌∷◌, ◌++◌, length, replicate, slice_get, Option, Some, None, if◌then◌else◌}
use Rattle.ann_element.specs.declared.annotation.Annotation.{Annotation}
use Rattle.ann_element.specs.declared.element.Element.{Element}
use Rattle.csub_tree.specs.State.{Null, Static, Block}
use Rattle.ll_code.specs.declared.program.LlProgram.{LlProgram}
use Rattle.rpy_tree.specs.Value.{Heap}
use Rattle.rpy_meaning.specs.Meaning.{exceptions_from}
use Rattle.rpy_meaning.specs.Operations.{builtin_classes}
use Rattle.rpy_meaning.specs.Tree.{Program}
use Rattle.rpy_resolved.specs.declared.tree.Resolved.{Resolved}
use Rattle.class_desc.specs.Line.{is_below}
use Rattle.rtyper_layout.specs.declared.classes.Laid.{Laid}
use Rattle.rtyper_layout.specs.Types.{word}
use Rattle.rtyper_class.specs.Seen.{World, laid}
use Rattle.object_laws.specs.Ghost.{Use, Stays, Whole, InstanceOf, Unseen, Home, Ghost}
use Rattle.object_laws.specs.Represents.{Represents}
use Rattle.layout_laws.specs.Knowing.{known_of}
use Rattle.layout_laws.specs.Layouts.{IsWorldOf, IsNumbered}
use Rattle.layout_laws.specs.Statics.{statics_of, HasStatics, IsBare}

abbrev pub class_if : ℕ → Option Laid → Option ℕ
class_if class None = None
class_if class (Some l) = Some class

-- the builtin exception class of which the static is the one instance
abbrev pub exception_of : World → ℕ → Option ℕ
exception_of world s =
    if nat_le world.first_exception s && nat_lt (s - world.first_exception) builtin_classes then class_if (s - world.first_exception) (laid world (s - world.first_exception)) else None

abbrev pub use_for : Option ℕ → Block → Use
use_for None block = Stays block
use_for (Some class) block = Whole class

abbrev pub uses_from : World → ℕ → List Block → List Use
uses_from world n [] = []
uses_from world n (block ∷ blocks) = use_for (exception_of world n) block ∷ uses_from world (n + 1) blocks

abbrev pub unseen : Home
unseen = record { sort = Unseen; head = Null }

abbrev pub home_for : World → ℕ → Option Laid → Home
home_for world class None = unseen
home_for world class (Some l) = record { sort = InstanceOf class; head = Static (word (world.first_exception + class)) }

abbrev pub homes_from : World → ℕ → ℕ → List Home
homes_from world class zero = []
homes_from world class (suc n) = home_for world class (laid world class) ∷ homes_from world (suc class) n

-- every static stays but the builtin exceptions, and of other objects nothing is known
abbrev pub first_ghost : World → LlProgram → ℕ → Ghost
first_ghost world p others = record {
  blocks = [];
  statics = uses_from world 0 (statics_of p);
  homes = homes_from world 0 builtin_classes ++ replicate others unseen;
}

-- builtin exception classes are below the first of them, and none has attributes
pub record AreBuiltin (world : World) : Type 0 where
  pub below : (class : ℕ) → class < builtin_classes → is_below world.classes.classes class 0 ≡ true
  pub bare : (class : ℕ) → class < builtin_classes → IsBare world class

-- what is said of statics is so, and they are no exceptions
abbrev pub AreStatics : World → LlProgram → (ℕ → Option Block) → Type 0
AreStatics world p static = (s : ℕ) (block : Block) → static s ≡ Some block → (slice_get (statics_of p) s ≡ Some block) × (exception_of world s ≡ None)

-- before anything is made, memory represents the builtin exceptions, whatever other objects there are, of which nothing is known
abbrev pub MemoryBegins : Type 0
MemoryBegins = (program : Resolved) (annotation : Annotation) (raises : Bool) (world : World) (reached : List Bool) (p : LlProgram) (meant : Program) (items keys : ℕ → Option Element) (static : ℕ → Option Block) (others : Heap) (left : ℕ)
    → IsWorldOf program annotation raises world → IsNumbered world → length world.around.layout.structs < 2 ^ 64 → HasStatics world program reached p → AreBuiltin world → AreStatics world p static → left < 2 ^ 62
    → Represents world.around.layout (known_of world program reached meant items keys static (λ s. None)) (first_ghost world p (length others)) (exceptions_from 0 builtin_classes ++ others) left [] (statics_of p)
