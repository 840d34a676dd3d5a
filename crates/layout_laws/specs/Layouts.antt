-- The layouts of programs lay out their classes.
use Rattle.std.specs.Prelude.{◌≡◌, ◌<◌, ◌≤◌, ◌^◌, ℕ, Bool, List, ◌++◌, length, option_map}
use Rattle.ann_element.specs.declared.annotation.Annotation.{Annotation}
use Rattle.ll_code.specs.declared.program.LlProgram.{LlProgram}
use Rattle.ll_code.specs.declared.program.LlStruct.{LlStruct}
use Rattle.rpy_resolved.specs.declared.tree.Resolved.{Resolved}
use Rattle.rpy_tree.specs.declared.program.ClassInfo.{ClassInfo}
use Rattle.class_desc.specs.Range.{IsForest}
use Rattle.rtyper_layout.specs.Layout.{layout_of}
use Rattle.rtyper_class.specs.Attributes.{place_in}
use Rattle.rtyper_class.specs.Seen.{World}
use Rattle.object_laws.specs.Done.{HasLayout}
use Rattle.object_laws.specs.Known.{Known}
use Rattle.class_laws.specs.Classes.{IsLaidOut, standing_of}

-- the layout is that of the program with these classes and this annotation, which knows the attributes
pub record IsWorldOf (program : Resolved) (annotation : Annotation) (raises : Bool) (world : World) : Type 0 where
  pub layout : world.around.layout ≡ layout_of program world.classes.classes annotation raises
  pub attributes : world.attributes ≡ annotation.attributes

-- Bases are classes, and come to an end. A class has a number of 32 bits, and a field one of 64: greater ones would be capped, and two
-- classes, or two fields, be one.
pub record IsNumbered (world : World) : Type 0 where
  pub forest : IsForest world.classes.classes
  pub classes : length world.classes.classes ≤ 2 ^ 32
  pub attributes : length world.attributes < 2 ^ 63

-- attributes are known where the lowering looks for them
abbrev pub KnowsAttributes : World → Known → Type 0
KnowsAttributes world known = (class : ℕ) (name : List ℕ) → known.attribute class name ≡ option_map standing_of (place_in world class name)

abbrev pub LayoutsLayOutClasses : Type 0
LayoutsLayOutClasses = (program : Resolved) (annotation : Annotation) (raises : Bool) (world : World) (known : Known)
    → IsWorldOf program annotation raises world → IsNumbered world → KnowsAttributes world known → IsLaidOut world known

-- whatever structs a program has behind those of its layout
abbrev pub LayoutsAreHad : Type 0
LayoutsAreHad = (program : Resolved) (infos : List ClassInfo) (annotation : Annotation) (raises : Bool) (p : LlProgram) (more : List LlStruct)
    → p.structs ≡ (layout_of program infos annotation raises).structs ++ more → length (layout_of program infos annotation raises).structs < 2 ^ 64 → HasLayout p (layout_of program infos annotation raises)
