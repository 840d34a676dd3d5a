-- Graphs of functions are done.
use Rattle.std.proofs.Common.{◌≡◌, ◌⊎◌, inl, inr, ℕ, Bool, true, false, Option, Some, None, refl, ◌∙◌}
use Rattle.std.specs.Prelude.{slice_get}
use Rattle.ann_element.specs.declared.element.Element.{Element}
use Rattle.flow_graph.specs.declared.graph.Block.{Block}
use Rattle.flow_graph.specs.declared.graph.Graph.{Graph}
use Rattle.rtyper_program.specs.Raises.{exit_catches}
use Rattle.rtyper_program.specs.Seen.{is_block_reached}
use Rattle.rtyped_runs.proofs.Premises.{variables_have_types}
use Rattle.catch_runs.specs.Parts.{BlockIsDoneSo}
use Rattle.typed_rows.specs.Programs.{Typed, IsTyped, first, last, layout, numbers, same, setting}
use Rattle.typed_rows.specs.Rows.{lowered_in}
use Rattle.typed_links.specs.Exits.{IsChecked, TestsStand}
use Rattle.typed_links.specs.Links.{ConversionsStand}
use Rattle.typed_links.proofs.Linking.{stands_in}
use Rattle.typed_links.proofs.Shaping.{clash_told}
use Rattle.typed_programs.proofs.Spots.{conflict_seen}
use Rattle.ann_lattice.specs.Shape.{shape}
use Rattle.conversion_laws.specs.Asked.{asks_for}
use Rattle.value_rows.proofs.Conversions.{asks_for_of, conversions_stand}
use Rattle.tested_rows.proofs.Tests.{tests_are_answered}
use Rattle.typed_blocks.proofs.Blocks.{blocks_are_done}
use Rattle.typed_runs.specs.Graphs.{GraphIsReady, GraphsAreDone, OperationsStand, WhatIsAskedForStands}

-- ---- what is asked for stands

conversions : (t : Typed) → IsTyped t → ConversionsStand t
conversions t typed from to w begun ends = conversions_stand t typed (asks_for (layout t) from to) w.found (asks_for_of (layout t) from to) ends

tests : (t : Typed) → IsTyped t → TestsStand t
tests t typed n graph v e w is truth lt begun ends le =
    tests_are_answered t typed n graph v (record {
      element = e;
      is = is;
      laid = typed.parts.laid e (stands_in t typed (conversions t typed) n graph v e is) (conflict_seen e ∙ clash_told (shape e) truth);
      under = lt;
    }) w begun ends le

pub what_is_asked_for_stands : WhatIsAskedForStands
what_is_asked_for_stands t typed = (conversions t typed, tests t typed)

-- ---- graphs

module _ (t : Typed) (typed : IsTyped t) (checked : IsChecked t) (so : OperationsStand t) (g : ℕ) (graph : Graph) (of : slice_get t.graphs.graphs g ≡ Some graph) (number : graph.function ≡ g) (ready : GraphIsReady t g graph) where
  done : (m : ℕ) (b : Block) → slice_get graph.blocks m ≡ Some b → is_block_reached t.known.annotation g m ≡ true → BlockIsDoneSo (setting t) (numbers t) (lowered_in t g graph) (first t) (last t) b
  done m b there reached = by (exit_catches graph b.exit) refl
    where
      by : (c : Bool) → exit_catches graph b.exit ≡ c → BlockIsDoneSo (setting t) (numbers t) (lowered_in t g graph) (first t) (last t) b
      by true h = inr (ready.catching m b there reached h)
      by false h = inl (blocks_are_done t typed checked (conversions t typed) (tests t typed) so.written so.types g m graph b of there reached number (ready.fits m b there reached) h)

pub graphs_are_done : GraphsAreDone
graphs_are_done t typed checked so g graph of number ready = record {
  function = number;
  types = variables_have_types (lowered_in t g graph) (same t) t.seen t.graphs t.p t.arguments (λ v e is free. typed.parts.laid e (stands_in t typed (conversions t typed) g graph v e is) free);
  blocks = done t typed checked so g graph of number ready;
  begins = ready.begins;
  params = ready.params;
  some_block = ready.some_block;
}
