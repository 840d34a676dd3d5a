-- What stands in the annotation of a program that has types is as a layout asks.
use Rattle.std.proofs.Common.{◌≡◌, ◌<◌, ℕ, false, List, length, refl, sym, ap, ◌∙◌, subst}
use Rattle.rpy_tree.specs.declared.program.Program.{Program}
use Rattle.flow_graph.specs.declared.graph.Graphs.{Graphs}
use Rattle.class_desc.specs.Tables.{tables}
use Rattle.ann_element.specs.Sites.{leader}
use Rattle.ann_element.specs.declared.annotation.Annotation.{Annotation}
use Rattle.ann_element.specs.declared.element.Element.{Element}
use Rattle.ann_lattice.specs.Assign.{Assignment, at}
use Rattle.ann_lattice.specs.Join.{is_clash}
use Rattle.ann_lattice.specs.Laws.{named, is_sound}
use Rattle.ann_lattice.specs.Shape.{shape}
use Rattle.ann_laws.specs.Rows.{HasClasses}
use Rattle.ann_needs.specs.View.{assignment}
use Rattle.ann_layout.specs.Layout.{planned}
use Rattle.rpy_checked.specs.Settles.{HasTypes}
use Rattle.typing_laws.proofs.Cells.{shape_at}
use Rattle.rtyper_layout.specs.declared.layout.Layout.{Layout}
use Rattle.laid_laws.specs.Laid.{StandsIn, IsPlanned}
use Rattle.planned_laws.specs.Planned.{HasStructs, ElementsArePlanned}
use Rattle.planned_laws.proofs.Cells.{stands_in_cell, mapped_at}
use Rattle.planned_laws.proofs.Elements.{is_fine}

module _ (p : Program) (gs : Graphs) (n : Annotation) (types : HasTypes p gs n) (classes : HasClasses (tables p)) (lt : 0 < length p.sites) where
  abbrev a : Assignment
  a = assignment types.state

  abbrev grown : Assignment
  grown = types.settled.grew.grown

  same_is : n.same ≡ a.same
  same_is = ap (λ (m : Annotation). m.same) types.settled.read.0

  leads : (s : ℕ) → leader n.same (leader n.same s) ≡ leader n.same s
  leads = subst (λ (t : List ℕ). (s : ℕ) → leader t (leader t s) ≡ leader t s) (sym same_is) (types.settled.fits classes lt).table.leads

  -- each cell is written with leaders
  cell_named : (c : ℕ) → at a c ≡ named n.same (at grown c)
  cell_named c =
      ap (λ (b : Assignment). at b c) types.settled.grew.named ∙ mapped_at (named grown.same) refl grown.cells c
      ∙ ap (λ t. named t (at grown c)) (sym (same_is ∙ ap (λ (b : Assignment). b.same) types.settled.grew.named))

  planned_at : (e : Element) → StandsIn n e → is_clash (shape e) ≡ false → (layout : Layout) → HasStructs layout (shape e) → IsPlanned layout n.same e
  planned_at e stands free layout structs =
      let there = stands_in_cell types.state (planned p gs (tables p)).plan.classes (planned p gs (tables p)).plan.places n types.settled.read.0 e stands in
      let is : shape e ≡ at a there.0 = ap shape there.1 ∙ shape_at types.state.cells there.0 in
      is_fine layout n.same leads e (at grown there.0) (is ∙ cell_named there.0) free (ap is_sound is ∙ ((types.settled.fits classes lt).formed there.0).sound) structs

pub elements_are_planned : ElementsArePlanned
elements_are_planned p gs n types classes lt e stands free layout structs = planned_at p gs n types classes lt e stands free layout structs
