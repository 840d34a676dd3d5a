-- What is asked of classes holds where their structs and vtables are those of the lowering.
use Rattle.std.specs.Prelude.{◌≡◌, ℕ, Bool, List, slice_get, Option, Some}
use Rattle.ann_element.specs.declared.annotation.Annotation.{Annotation}
use Rattle.ann_element.specs.declared.element.Element.{Element}
use Rattle.csub_tree.specs.State.{Block}
use Rattle.rpy_meaning.specs.Tree.{Class, Program}
use Rattle.rpy_resolved.specs.declared.tree.Class as resolved
use Rattle.rpy_resolved.specs.declared.tree.Resolved.{Resolved}
use Rattle.resolved_meaning.specs.Trees.{program_of}
use Rattle.rtyper_class.specs.Seen.{World}
use Rattle.rtyper_class.specs.Vtables.{name_in}
use Rattle.object_laws.specs.Known.{Known}
use Rattle.class_laws.specs.Classes.{IsOf}
use Rattle.layout_laws.specs.Knowing.{known_of}
use Rattle.object_laws.specs.Ghost.{Home}
use Rattle.layout_laws.specs.Layouts.{IsWorldOf, IsNumbered}
use Rattle.entry_laws.specs.Ends.{ExceptionIsLaid, NamesAreKnown}

-- `Exception` has structs where a class below it has, in the layout of a program
abbrev pub ExceptionsAreLaid : Type 0
ExceptionsAreLaid = (program : Resolved) (annotation : Annotation) (raises : Bool) (world : World) (known : Known) → IsWorldOf program annotation raises world → IsNumbered world → IsOf world known → ExceptionIsLaid world known

-- the classes of the meaning have the names of these
abbrev pub AreNamed : List Class → List resolved.Class → Type 0
AreNamed meant classes = (class : ℕ) (c : Class) → slice_get meant class ≡ Some c → name_in (slice_get classes class) ≡ c.name

-- what is known of a vtable by the world of the lowering is the name that is written for it
abbrev pub NamesAreWritten : Type 0
NamesAreWritten = (world : World) (program : Resolved) (reached : List Bool) (meant : Program) (items keys : ℕ → Option Element) (static : ℕ → Option Block) (site : ℕ → Option Home)
    → AreNamed meant.classes program.classes → NamesAreKnown world (known_of world program reached meant items keys static site)

-- those of the meaning of a program have the names that the program says
abbrev pub ProgramsHaveTheirNames : Type 0
ProgramsHaveTheirNames = (program : Resolved) → AreNamed (program_of program).classes program.classes
