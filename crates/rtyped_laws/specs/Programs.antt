-- A program that is made of flow graphs has the structs and the statics of its layout, as the laws of operations take them.
use Rattle.std.specs.Prelude.{◌≡◌, ◌<◌, ◌^◌, ℕ, [], ◌++◌, length, Option, Some, None}
use Rattle.ann_element.specs.declared.element.Element.{Element}
use Rattle.csub_tree.specs.State.{Block}
use Rattle.ll_code.specs.declared.program.LlProgram.{LlProgram}
use Rattle.ll_texts.specs.Texts.{found}
use Rattle.rpy_tree.specs.Value.{Heap}
use Rattle.rpy_meaning.specs.Tree.{Program}
use Rattle.rpy_meaning.specs.Meaning.{exceptions_from}
use Rattle.rpy_meaning.specs.Operations.{builtin_classes}
use Rattle.class_desc.specs.Tables.{Tables}
use Rattle.class_laws.specs.Classes.{IsLaidOut}
use Rattle.rtyper_class.specs.Seen.{laid}
use Rattle.rtyper_layout.specs.declared.classes.Laid.{Laid}
use Rattle.rtyper_layout.specs.declared.layout.Layout.{Layout}
use Rattle.rtyper_layout.specs.Layout.{layout_of}
use Rattle.rtyper_program.specs.Program.{IsLaid, IsSettled}
use Rattle.rtyper_program.specs.Raises.{raises}
use Rattle.rtyper_program.specs.Seen.{Known}
use Rattle.object_laws.specs.Done.{HasLayout}
use Rattle.object_laws.specs.Known.{Known as Seen, vtable_block}
use Rattle.object_laws.specs.Represents.{Represents}
use Rattle.layout_laws.specs.Beginning.{AreBuiltin, AreStatics, first_ghost}
use Rattle.layout_laws.specs.Knowing.{known_of, vtable_known}
use Rattle.layout_laws.specs.Layouts.{IsNumbered, IsWorldOf, KnowsAttributes}
use Rattle.layout_laws.specs.Statics.{HasStatics, statics_of}
use Rattle.program_asks.specs.Standing.{world_in}

-- the layout of a program with its annotation
abbrev pub layout_for : Known → Tables → Layout
layout_for known classes = layout_of known.program classes.classes known.annotation (raises known)

-- what its operations were lowered in is the world of that layout
abbrev pub WorldsAreOfPrograms : Type 0
WorldsAreOfPrograms = (known : Known) (classes : Tables) (p : LlProgram) (r : IsLaid known classes p) → IsWorldOf known.program known.annotation (raises known) (world_in known classes (layout_for known classes) p r)

-- strings, tuples, lists, dicts and instances have their structs
abbrev pub LayoutsAreHadByPrograms : Type 0
LayoutsAreHadByPrograms = (known : Known) (classes : Tables) (p : LlProgram) → IsLaid known classes p → length (layout_for known classes).structs < 2 ^ 64 → HasLayout p (layout_for known classes)

-- vtables and builtin exceptions stand where the lowering looks for them
abbrev pub StaticsAreHadByPrograms : Type 0
StaticsAreHadByPrograms = (known : Known) (classes : Tables) (layout : Layout) (p : LlProgram) (r : IsSettled known classes layout p) → length p.statics < 2 ^ 64
    → HasStatics (world_in known classes layout p r) known.program known.annotation.reached p

-- classes are laid out as the laws of instances take them, where these numbers are not too great and attributes are known where they are
-- looked for
abbrev pub ClassesAreLaidByPrograms : Type 0
ClassesAreLaidByPrograms = (known : Known) (classes : Tables) (p : LlProgram) (r : IsLaid known classes p) (seen : Seen) → IsNumbered (world_in known classes (layout_for known classes) p r)
    → KnowsAttributes (world_in known classes (layout_for known classes) p r) seen → IsLaidOut (world_in known classes (layout_for known classes) p r) seen

-- a vtable has the number, the methods and the name of its class
abbrev pub VtablesAreHadByPrograms : Type 0
VtablesAreHadByPrograms = (known : Known) (classes : Tables) (p : LlProgram) (r : IsLaid known classes p) → IsNumbered (world_in known classes (layout_for known classes) p r) → length p.statics < 2 ^ 64
    → (class : ℕ) (l : Laid) → laid (world_in known classes (layout_for known classes) p r) class ≡ Some l
    → found [] (statics_of p) (vtable_known (world_in known classes (layout_for known classes) p r) known.program known.annotation.reached class).at
    ≡ Some (vtable_block l.vtable (vtable_known (world_in known classes (layout_for known classes) p r) known.program known.annotation.reached class))

-- before anything is made, its memory represents the builtin exceptions, whatever other objects there are
abbrev pub MemoryBeginsInPrograms : Type 0
MemoryBeginsInPrograms = (known : Known) (classes : Tables) (p : LlProgram) (r : IsLaid known classes p) (meant : Program) (items keys : ℕ → Option Element) (static : ℕ → Option Block) (others : Heap) (left : ℕ)
    → IsNumbered (world_in known classes (layout_for known classes) p r) → length (layout_for known classes).structs < 2 ^ 64 → length p.statics < 2 ^ 64
    → AreBuiltin (world_in known classes (layout_for known classes) p r) → AreStatics (world_in known classes (layout_for known classes) p r) p static → left < 2 ^ 62
    → Represents (layout_for known classes) (known_of (world_in known classes (layout_for known classes) p r) known.program known.annotation.reached meant items keys static (λ s. None))
    (first_ghost (world_in known classes (layout_for known classes) p r) p (length others)) (exceptions_from 0 builtin_classes ++ others) left [] (statics_of p)
