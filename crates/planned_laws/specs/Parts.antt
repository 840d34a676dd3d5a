-- The parts of a program with types are in no conflict.
use Rattle.std.specs.Prelude.{◌≡◌, ◌<◌, false, length}
use Rattle.rpy_tree.specs.declared.program.Program.{Program}
use Rattle.flow_graph.specs.declared.graph.Graphs.{Graphs}
use Rattle.class_desc.specs.Tables.{tables}
use Rattle.ann_element.specs.declared.annotation.Annotation.{Annotation}
use Rattle.ann_element.specs.declared.element.Element.{Element}
use Rattle.ann_lattice.specs.Join.{is_clash}
use Rattle.ann_lattice.specs.Shape.{shape}
use Rattle.ann_laws.specs.Rows.{HasClasses}
use Rattle.rpy_checked.specs.Settles.{HasTypes}
use Rattle.rtyper_layout.specs.declared.layout.Layout.{Layout}
use Rattle.laid_laws.specs.Laid.{InRow, InRows, InAttributes, IsPlanned}
use Rattle.planned_laws.specs.Planned.{HasStructs}

-- the element of a parameter, a result, an attribute, or of items or keys
pub data StandsInPart (a : Annotation) (e : Element) : Type 0 where
  OfParam : InRows a.params e → StandsInPart a e
  OfResult : InRow a.results e → StandsInPart a e
  OfAttribute : InAttributes a.attributes e → StandsInPart a e
  OfItem : InRow a.items e → StandsInPart a e
  OfKey : InRow a.keys e → StandsInPart a e

-- no such element is in conflict
abbrev pub PartsAreFree : Type 0
PartsAreFree = (p : Program) (gs : Graphs) (n : Annotation) → HasTypes p gs n → (e : Element) → StandsInPart n e → is_clash (shape e) ≡ false

-- so each is as a layout asks where its classes have structs
abbrev pub PartsArePlanned : Type 0
PartsArePlanned = (p : Program) (gs : Graphs) (n : Annotation) → HasTypes p gs n → HasClasses (tables p) → 0 < length p.sites
    → (e : Element) → StandsInPart n e → (layout : Layout) → HasStructs layout (shape e) → IsPlanned layout n.same e
