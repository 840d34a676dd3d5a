-- What stands in the annotation of a program that has types is as a layout asks.
use Rattle.std.specs.Prelude.{◌≡◌, ◌<◌, false, length, Some}
use Rattle.rpy_tree.specs.declared.program.Program.{Program}
use Rattle.flow_graph.specs.declared.graph.Graphs.{Graphs}
use Rattle.class_desc.specs.Tables.{tables}
use Rattle.ann_element.specs.declared.annotation.Annotation.{Annotation}
use Rattle.ann_element.specs.declared.element.Element.{Element}
use Rattle.ann_lattice.specs.Join.{is_clash}
use Rattle.ann_lattice.specs.Shape.{Shape, Tup, Inst, Shapes, end, more, shape}
use Rattle.ann_laws.specs.Rows.{HasClasses}
use Rattle.rpy_checked.specs.Settles.{HasTypes}
use Rattle.rtyper_layout.specs.declared.classes.Laid.{Laid}
use Rattle.rtyper_layout.specs.declared.layout.Layout.{Layout}
use Rattle.rtyper_layout.specs.Types.{laid_in}
use Rattle.laid_laws.specs.Laid.{StandsIn, IsPlanned}

-- each class of instances in it, at any depth, has structs
abbrev mutual
  pub HasStructs : Layout → Shape → Type 0
  HasStructs layout (Tup xs) = AllHaveStructs layout xs
  HasStructs layout (Inst class n) = (l : Laid) × (laid_in layout.classes class ≡ Some l)
  HasStructs layout other = Unit {0}

  pub AllHaveStructs : Layout → Shapes → Type 0
  AllHaveStructs layout end = Unit {0}
  AllHaveStructs layout (more x xs) = HasStructs layout x × AllHaveStructs layout xs

-- Where an element that stands in the annotation is in no conflict, and its classes have structs, it is as the layout asks: the sites in it, at any depth,
-- are written by the least one of their class, and no part of it is in conflict.
abbrev pub ElementsArePlanned : Type 0
ElementsArePlanned = (p : Program) (gs : Graphs) (n : Annotation) → HasTypes p gs n → HasClasses (tables p) → 0 < length p.sites
    → (e : Element) → StandsIn n e → is_clash (shape e) ≡ false → (layout : Layout) → HasStructs layout (shape e) → IsPlanned layout n.same e
