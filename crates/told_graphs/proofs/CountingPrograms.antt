-- The graphs of programs have few blocks, where those of functions have.
use Rattle.std.proofs.Common.{◌≡◌, ℕ, zero, suc, ◌+◌, Bool, true, false, List, [], ◌∷◌, ◌++◌, length, slice_get, Option, Some, None, refl, sym, subst, arith}
use Rattle.std.specs.Prelude.{if◌then◌else◌}
use Rattle.ll_code.specs.declared.program.LlGraph.{LlGraph}
use Rattle.ll_code.specs.declared.program.LlProgram.{LlProgram}
use Rattle.ll_build.specs.declared.needs.Need.{Need}
use Rattle.ll_helpers.specs.Helpers.{helpers}
use Rattle.class_desc.specs.Tables.{Tables}
use Rattle.flow_graph.specs.declared.graph.Graph.{Graph}
use Rattle.rpy_meaning.specs.declared.row.Covers.{Covers}
use Rattle.rtyper_layout.specs.declared.classes.Laid.{Laid}
use Rattle.rtyper_layout.specs.declared.layout.Layout.{Layout}
use Rattle.rtyper_data.specs.declared.found.Found.{Found}
use Rattle.rtyper_data.specs.declared.small.Small.{Small}
use Rattle.rtyper_op.specs.Prebuilt.{prebuilt}
use Rattle.rtyper_raising.specs.Raising.{raising_graphs}
use Rattle.rtyper_class.specs.Seen.{World, laid}
use Rattle.rtyper_program.specs.Entry.{entry_graph, graph_to, into_of, number_of}
use Rattle.rtyper_program.specs.Graphs.{graph_of, result_of}
use Rattle.rtyper_program.specs.Program.{all_graphs, arguments_number, found_first, functions_from, pass, plain_graphs, small_of, smalls_to, with_function, with_small, world_behind}
use Rattle.rtyper_program.specs.Seen.{Known, is_reached}
use Rattle.growth_laws.specs.Growing.{Grows}
use Rattle.growth_laws.proofs.Data.{then_grows}
use Rattle.growth_laws.proofs.Growing.{same_found}
use Rattle.program_asks.specs.Standing.{OnlyAsks}
use Rattle.program_asks.proofs.Passes.{functions_grow, helpers_grow, plain_to_all}
use Rattle.program_asks.proofs.WritingBlocks.{graph_grows, programs_only_ask}
use Rattle.told_graphs.specs.Told.{BlocksAreFew, FunctionsAreSmall}
use Rattle.told_graphs.proofs.Counting.{AllFew, few_in, is_small, one_more, small_are_few, small_is_few}
use Rattle.told_graphs.proofs.CountingHelpers.{helpers_small, raising_small}
use Rattle.told_graphs.proofs.CountingSmalls.{small_small}

module _ (known : Known) (world : World) where
  small_more : (o : Option Small) (made : List LlGraph × Found) → AllFew made.0 → AllFew (with_small world o made).0
  small_more None made h = h
  small_more (Some s) made h = one_more made.0 (small_of world s made.1).0 h (small_is_few (small_of world s made.1).0 (small_small world s made.1))

  smalls_few : (count : ℕ) (made : List LlGraph × Found) → AllFew made.0 → AllFew (smalls_to world count made).0
  smalls_few zero made h = h
  smalls_few (suc n) made h = small_more (slice_get (smalls_to world n made).1.smalls n) (smalls_to world n made) (smalls_few n made h)

  module _ (first last : Found) (functions : FunctionsAreSmall known world first last) where
    function_few : (n : ℕ) (g : Graph) (made : List LlGraph × Found) (b : Bool) → is_reached known.annotation g.function ≡ b → slice_get known.graphs n ≡ Some g → Grows first made.1
        → Grows (if b then (made.0 ++ (graph_of known world n g made.1).0 ∷ [], (graph_of known world n g made.1).1) else made).1 last → AllFew made.0
        → AllFew (if b then (made.0 ++ (graph_of known world n g made.1).0 ∷ [], (graph_of known world n g made.1).1) else made).0
    function_few n g made true reached at early late h = one_more made.0 (graph_of known world n g made.1).0 h (functions n g at reached made.1 early late)
    function_few n g made false reached at early late h = h

    function_grows : (n : ℕ) (g : Graph) (made : List LlGraph × Found) (b : Bool) → Grows made.1 (if b then (made.0 ++ (graph_of known world n g made.1).0 ∷ [], (graph_of known world n g made.1).1) else made).1
    function_grows n g made true = graph_grows known world n g made.1
    function_grows n g made false = same_found made.1

    functions_few : (n : ℕ) (gs : List Graph) (made : List LlGraph × Found) → ((i : ℕ) (g : Graph) → slice_get gs i ≡ Some g → slice_get known.graphs (n + i) ≡ Some g) → Grows first made.1 → Grows (functions_from known world n gs made).1 last
        → AllFew made.0 → AllFew (functions_from known world n gs made).0
    functions_few n [] made at early late h = h
    functions_few n (g ∷ gs) made at early late h =
        let reached : Bool = is_reached known.annotation g.function in
        let m : List LlGraph × Found = with_function known world n g made in
        let here : slice_get known.graphs n ≡ Some g = subst (λ k. slice_get known.graphs k ≡ Some g) (let z : n + 0 ≡ n = omega arith in z) (at 0 g refl) in
        let next : Grows made.1 m.1 = function_grows n g made reached in
        let behind : Grows m.1 last = then_grows (functions_grow known world (graph_grows known world) (n + 1) gs m) late in
        functions_few (n + 1) gs m (λ i x e. subst (λ k. slice_get known.graphs k ≡ Some x) (let z : n + suc i ≡ n + 1 + i = omega arith in z) (at (suc i) x e)) (then_grows early next) late
        (function_few n g made reached refl here early behind h)

entry_by : (number : ℕ) (into : Option ℕ) (arguments list : ℕ) (l : Option Laid) → is_small (graph_to number into arguments list l) ≡ true
entry_by number into arguments list None = refl
entry_by number into arguments list (Some l) = refl

entry_small : (world : World) (function arguments : ℕ) → is_small (entry_graph world function arguments) ≡ true
unfolding entry_graph
entry_small world function arguments = entry_by (number_of world function) (into_of (result_of world.around function)) arguments world.around.layout.first_list (laid world 0)

pass_few : (known : Known) (classes : Tables) (layout : Layout) (needs : List Need) (caught : List Covers) (count : ℕ)
    → FunctionsAreSmall known (world_behind known classes layout (helpers layout.structs needs)) (found_first known (world_behind known classes layout (helpers layout.structs needs)) (helpers layout.structs needs) needs caught) (pass known classes layout needs caught count).1
    → AllFew (pass known classes layout needs caught count).0.graphs
unfolding pass all_graphs plain_graphs
pass_few known classes layout needs caught count functions =
    let helped : LlProgram = helpers layout.structs needs in
    let world : World = world_behind known classes layout helped in
    let only : OnlyAsks known world = programs_only_ask known world in
    let first : Found = found_first known world helped needs caught in
    let p : Found = prebuilt world.around known.program.sites known.annotation.same first in
    let start : List LlGraph × Found = raising_graphs 0 helped.graphs p in
    let plain : List LlGraph × Found = functions_from known world 0 known.graphs start in
    let number : ℕ × Found = arguments_number world plain.1 in
    let last : Found = (pass known classes layout needs caught count).1 in
    let entry : LlGraph = entry_graph world known.program.entry number.0 in
    one_more (smalls_to world count (plain.0, number.1)).0 entry
    (smalls_few known world count (plain.0, number.1)
    (functions_few known world first last functions 0 known.graphs start (λ i g e. subst (λ k. slice_get known.graphs k ≡ Some g) (let z : i ≡ 0 + i = omega arith in z) e)
    (then_grows (only.constants first) (helpers_grow 0 helped.graphs p)) (plain_to_all known world only helped.graphs first count) (small_are_few start.0 (raising_small 0 helped.graphs p (helpers_small needs (length layout.structs))))))
    (small_is_few entry (entry_small world known.program.entry number.0))

pub blocks_are_few : BlocksAreFew
blocks_are_few known classes layout p r functions number graph e = few_in p.graphs (subst (λ (q : LlProgram). AllFew q.graphs) (sym r.written) (pass_few known classes layout r.needs r.caught r.count functions)) number graph e
