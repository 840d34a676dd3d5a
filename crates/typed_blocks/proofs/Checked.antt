-- Programs that passed their checks are as laws of their blocks ask.
use Rattle.std.proofs.Common.{◌≡◌, ℕ, zero, suc, true, List, [], ◌∷◌, map, length, slice_get, Some, refl, sym, ap, ◌∙◌, subst}
use Rattle.ann_element.specs.declared.annotation.Annotation.{Annotation}
use Rattle.ann_lattice.specs.Assign.{mark}
use Rattle.ann_layout.specs.Layout.{plan}
use Rattle.ann_needs.specs.View.{place_in}
use Rattle.ann_needs.specs.declared.plan.Places.{Places}
use Rattle.ann_needs.specs.declared.state.State.{State}
use Rattle.ann_rules.specs.Rules.{needs}
use Rattle.ann_settled.specs.Read as read
use Rattle.class_desc.specs.Tables.{tables}
use Rattle.flow_graph.specs.declared.graph.Block.{Block}
use Rattle.flow_graph.specs.declared.graph.Graph.{Graph}
use Rattle.flow_graph.specs.declared.graph.Graphs.{Graphs}
use Rattle.flow_space.specs.Placed.{NodesAt}
use Rattle.graph_counts.specs.Counts.{IsReadAt, StandsUnder}
use Rattle.graph_counts.proofs.Counted.{variables_are_there}
use Rattle.ll_code.specs.declared.program.LlProgram.{LlProgram}
use Rattle.object_laws.specs.Known.{Known as Seen}
use Rattle.rpy_checked.specs.Settles.{HasTypes}
use Rattle.rpy_resolved.specs.declared.tree.Resolved.{Resolved}
use Rattle.rpy_tree.specs.declared.program.Program.{Program}
use Rattle.rtyper_program.specs.Graphs.{variables}
use Rattle.rtyper_program.specs.Program.{IsLaid}
use Rattle.rtyper_program.specs.Seen.{is_block_reached}
use Rattle.sound_rows.specs.Sound.{AllMet}
use Rattle.typing_laws.proofs.Cells as typing
use Rattle.typed_rows.specs.Programs.{Typed, world}
use Rattle.typed_programs.specs.Made.{known_in, typed_in}
use Rattle.typed_programs.proofs.Seeing.{few_cells_of, few_marks_of}
use Rattle.typed_blocks.specs.Checked.{ProgramsAreChecked}

module _ (program : Program) (gs : Graphs) (n : Annotation) (types : HasTypes program gs n) (resolved : Resolved) (p : LlProgram) (made : IsLaid (known_in resolved gs n) (tables program) p) (seen : Seen) (arguments : List (List ℕ)) (nodes : NodesAt resolved gs) where
  abbrev t : Typed
  t = typed_in program gs n types resolved p made seen arguments

  abbrev s : State
  s = types.state

  abbrev places : Places
  places = (plan program gs (tables program)).places

  is : n ≡ read.annotation s (tables program) n.nodes places
  is = types.settled.read.0

  same_marks : (rows : List (List ℕ)) (g m : ℕ) → is_block_reached (record n { blocks = map (read.marks s) rows }) g m ≡ mark t.assigned (place_in rows g m)
  same_marks [] g m = typing.mark_seen s (few_cells_of program gs n types) (few_marks_of program gs n types) [] m
  same_marks (row ∷ rows) zero m = typing.mark_seen s (few_cells_of program gs n types) (few_marks_of program gs n types) row m
  same_marks (row ∷ rows) (suc g) m = same_marks rows g m

  pub block_is : (g m : ℕ) → is_block_reached n g m ≡ mark t.assigned (t.whole.places.block g m)
  block_is g m = ap (λ blocks. is_block_reached (record n { blocks = blocks }) g m) (ap (λ (a : Annotation). a.blocks) is) ∙ same_marks places.blocks g m

  pub stands_under : (g m : ℕ) (graph : Graph) (b : Block) → slice_get gs.graphs g ≡ Some graph → slice_get graph.blocks m ≡ Some b → StandsUnder (length (variables t.known (world t) g)) b
  stands_under g m graph b of there = (variables_are_there program gs (tables program) resolved t.known (world t) nodes read_at g graph of).1 m b there
    where
      read_at : IsReadAt places n
      read_at = record { cell = read.cell s; params = ap (λ (a : Annotation). a.params) is; vars = ap (λ (a : Annotation). a.vars) is }

pub programs_are_checked : ProgramsAreChecked
programs_are_checked program gs n types resolved p made seen arguments nodes met = record {
  graphs = refl;
  nodes = nodes;
  met = met;
  marked = λ g m h. sym (block_is program gs n types resolved p made seen arguments nodes g m) ∙ h;
  seen = λ g m graph b of there h. block_is program gs n types resolved p made seen arguments nodes g m ∙ h;
  under = λ g m graph b of there. stands_under program gs n types resolved p made seen arguments nodes g m graph b of there;
}
