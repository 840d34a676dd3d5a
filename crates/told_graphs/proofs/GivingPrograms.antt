-- The graphs of programs give something.
use Rattle.std.proofs.Common.{◌≡◌, ℕ, zero, suc, ◌+◌, Bool, true, false, List, [], ◌∷◌, ◌++◌, length, slice_get, Option, Some, None, refl, sym, subst}
use Rattle.std.specs.Prelude.{if◌then◌else◌}
use Rattle.ll_code.specs.declared.program.LlGraph.{LlGraph}
use Rattle.ll_code.specs.declared.program.LlProgram.{LlProgram}
use Rattle.ll_build.specs.declared.needs.Need.{Need}
use Rattle.ll_helpers.specs.Helpers.{helpers}
use Rattle.class_desc.specs.Tables.{Tables}
use Rattle.flow_graph.specs.declared.graph.Graph.{Graph}
use Rattle.rpy_meaning.specs.declared.row.Covers.{Covers}
use Rattle.rtyper_layout.specs.declared.classes.Laid.{Laid}
use Rattle.rtyper_layout.specs.declared.layout.Layout.{Layout}
use Rattle.rtyper_data.specs.declared.found.Found.{Found}
use Rattle.rtyper_data.specs.declared.small.Small.{Small}
use Rattle.rtyper_op.specs.Prebuilt.{prebuilt}
use Rattle.rtyper_raising.specs.Raising.{raising_graphs}
use Rattle.rtyper_class.specs.Seen.{World, laid}
use Rattle.rtyper_program.specs.Entry.{entry_graph, graph_to, into_of, number_of}
use Rattle.rtyper_program.specs.Graphs.{graph_of, result_of}
use Rattle.rtyper_program.specs.Program.{all_graphs, arguments_number, found_first, functions_from, pass, plain_graphs, small_of, smalls_to, with_function, with_small, world_behind}
use Rattle.rtyper_program.specs.Seen.{Known, is_reached}
use Rattle.told_graphs.specs.Told.{GraphsAlwaysGive}
use Rattle.told_graphs.proofs.Giving.{AllGive, always_give, graph_gives, one_more}
use Rattle.told_graphs.proofs.GivingFunctions.{function_gives}
use Rattle.told_graphs.proofs.GivingHelpers.{helpers_give, raising_give}
use Rattle.told_graphs.proofs.GivingSmalls.{small_gives}

module _ (known : Known) (world : World) where
  function_more : (n : ℕ) (g : Graph) (made : List LlGraph × Found) (b : Bool) → AllGive made.0 → AllGive (if b then (made.0 ++ (graph_of known world n g made.1).0 ∷ [], (graph_of known world n g made.1).1) else made).0
  function_more n g made true h = one_more made.0 (graph_of known world n g made.1).0 h (function_gives known world n g made.1)
  function_more n g made false h = h

  functions_give : (n : ℕ) (gs : List Graph) (made : List LlGraph × Found) → AllGive made.0 → AllGive (functions_from known world n gs made).0
  functions_give n [] made h = h
  functions_give n (g ∷ gs) made h = functions_give (n + 1) gs (with_function known world n g made) (function_more n g made (is_reached known.annotation g.function) h)

  small_more : (o : Option Small) (made : List LlGraph × Found) → AllGive made.0 → AllGive (with_small world o made).0
  small_more None made h = h
  small_more (Some s) made h = one_more made.0 (small_of world s made.1).0 h (small_gives world s made.1)

  smalls_give : (count : ℕ) (made : List LlGraph × Found) → AllGive made.0 → AllGive (smalls_to world count made).0
  smalls_give zero made h = h
  smalls_give (suc n) made h = small_more (slice_get (smalls_to world n made).1.smalls n) (smalls_to world n made) (smalls_give n made h)

entry_by : (number : ℕ) (into : Option ℕ) (arguments list : ℕ) (l : Option Laid) → graph_gives (graph_to number into arguments list l) ≡ true
entry_by number into arguments list None = refl
entry_by number into arguments list (Some l) = refl

entry_gives : (world : World) (function arguments : ℕ) → graph_gives (entry_graph world function arguments) ≡ true
unfolding entry_graph
entry_gives world function arguments = entry_by (number_of world function) (into_of (result_of world.around function)) arguments world.around.layout.first_list (laid world 0)

pass_gives : (known : Known) (classes : Tables) (layout : Layout) (needs : List Need) (caught : List Covers) (count : ℕ) → AllGive (pass known classes layout needs caught count).0.graphs
unfolding pass all_graphs plain_graphs
pass_gives known classes layout needs caught count =
    let helped : LlProgram = helpers layout.structs needs in
    let world : World = world_behind known classes layout helped in
    let first : Found = found_first known world helped needs caught in
    let p : Found = prebuilt world.around known.program.sites known.annotation.same first in
    let plain : List LlGraph × Found = functions_from known world 0 known.graphs (raising_graphs 0 helped.graphs p) in
    let number : ℕ × Found = arguments_number world plain.1 in
    one_more (smalls_to world count (plain.0, number.1)).0 (entry_graph world known.program.entry number.0)
    (smalls_give known world count (plain.0, number.1) (functions_give known world 0 known.graphs (raising_graphs 0 helped.graphs p) (raising_give 0 helped.graphs p (helpers_give needs (length layout.structs)))))
    (entry_gives world known.program.entry number.0)

pub graphs_always_give : GraphsAlwaysGive
graphs_always_give known classes layout p r = always_give p (subst (λ (q : LlProgram). AllGive q.graphs) (sym r.written) (pass_gives known classes layout r.needs r.caught r.count))
