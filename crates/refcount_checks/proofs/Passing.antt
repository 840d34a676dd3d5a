-- What is tested is what is asked.
use Rattle.std.proofs.Common.{◌≡◌, ℕ, zero, suc, Bool, true, false, ◌&&◌, List, [], ◌∷◌, Option, Some, None, Ok, Err, length, refl, sym, ap, ◌∙◌, subst}
use Rattle.std.specs.Prelude.{slice_get, nat_lt, Result, IfOk}
use Rattle.ll_code.specs.declared.program.LlType.{LlType}
use Rattle.ll_code.specs.declared.program.LlBlock.{LlBlock}
use Rattle.ll_code.specs.declared.program.LlGraph.{LlGraph}
use Rattle.ll_code.specs.declared.program.LlProgram.{LlProgram}
use Rattle.ll_code.specs.declared.program.LlStruct.{LlStruct}
use Rattle.refcount_transform.specs.declared.plan.Counts.{Counts}
use Rattle.refcount_transform.specs.declared.slots.Slots.{Slots}
use Rattle.refcount_transform.specs.Plan.{Plan, plan_of, plan_with, counted_structs, slots_of, counts_behind, behind}
use Rattle.refcount_laws.specs.Leaves.{are_apart}
use Rattle.refcount_laws.specs.Made.{structs_lead}
use Rattle.refcount_typed.specs.Leads.{graphs_lead}
use Rattle.refcount_typed.specs.Numbered.{structs_numbered}
use Rattle.ll_points.specs.Agrees.{graphs_agree, slots_among}
use Rattle.refcount_checks.specs.Countable.{most, ops_countable, numbers_follow, block_counts, block_countable, blocks_count, blocks_countable, graph_counts, graph_countable, graphs_count, graphs_countable, takes_params, is_countable}
use Rattle.refcount_checks.specs.Watch.{graphs_read_known}
use Rattle.refcount_checks.specs.Passes.{plan_passes, Passes}
use Rattle.refcount_checks.proofs.Known.{Block, known_blocks}

and_one : (a b : Bool) → (a && b) ≡ true → a ≡ true
and_one true b e = refl
and_one false b e = e

and_two : (a b : Bool) → (a && b) ≡ true → b ≡ true
and_two true b e = e
and_two false b e = absurd (cc)

and_both : (a b : Bool) → a ≡ true → b ≡ true → (a && b) ≡ true
and_both true b e f = f
and_both false b e f = absurd (cc)

one_more : (a b c d : Bool) → a ≡ true → ((b && c) && d) ≡ true → (((a && b) && c) && d) ≡ true
one_more true b c d e f = f
one_more false b c d e f = absurd (cc)

-- inputs stand once, and the rest was tested
blocks_join : (plan : Plan) (graphs : List LlGraph) (types : List LlType) (blocks : List LlBlock) → ((n : ℕ) (block : LlBlock) → slice_get blocks n ≡ Some block → Block block) → blocks_count plan graphs types blocks ≡ true → blocks_countable plan graphs types blocks ≡ true
blocks_join plan graphs types [] known e = refl
blocks_join plan graphs types (block ∷ blocks) known e =
    and_both (block_countable plan graphs types block) (blocks_countable plan graphs types blocks) (one_more (are_apart block.inputs) (nat_lt (length block.inputs) most) (ops_countable plan graphs types block.ops) (numbers_follow plan None block.ops) (known 0 block refl).apart (and_one _ _ e))
    (blocks_join plan graphs types blocks (λ n b f. known (suc n) b f) (and_two (block_counts plan graphs types block) _ e))

graphs_join : (plan : Plan) (all graphs : List LlGraph) → ((f : ℕ) (graph : LlGraph) → slice_get graphs f ≡ Some graph → (n : ℕ) (block : LlBlock) → slice_get graph.blocks n ≡ Some block → Block block) → graphs_count plan all graphs ≡ true → graphs_countable plan all graphs ≡ true
graphs_join plan all [] known e = refl
graphs_join plan all (graph ∷ graphs) known e =
    let one : graph_counts plan all graph ≡ true = and_one _ _ e in
    and_both (graph_countable plan all graph) (graphs_countable plan all graphs)
    (and_both (takes_params graph.params (slice_get graph.blocks 0)) (blocks_countable plan all graph.types graph.blocks) (and_one _ _ one) (blocks_join plan all graph.types graph.blocks (known 0 graph refl) (and_two (takes_params graph.params (slice_get graph.blocks 0)) _ one)))
    (graphs_join plan all graphs (λ f g is. known (suc f) g is) (and_two (graph_counts plan all graph) _ e))

pub passes_so : (p : LlProgram) → plan_passes (plan_of p) p.graphs ≡ true → Passes p
passes_so p e =
    let agree : graphs_agree (slots_among p.graphs) p.graphs ≡ true = and_two _ _ e in
    let four : (((graphs_read_known p.graphs && graphs_count (plan_of p) p.graphs p.graphs) && (structs_lead (plan_of p) p.structs && graphs_lead (plan_of p) p.graphs)) && structs_numbered (plan_of p) p.structs) ≡ true = and_one _ _ e in
    let three : ((graphs_read_known p.graphs && graphs_count (plan_of p) p.graphs p.graphs) && (structs_lead (plan_of p) p.structs && graphs_lead (plan_of p) p.graphs)) ≡ true = and_one _ _ four in
    let two : (graphs_read_known p.graphs && graphs_count (plan_of p) p.graphs p.graphs) ≡ true = and_one _ _ three in
    let known : graphs_read_known p.graphs ≡ true = and_one _ _ two in
    record {
      leads = and_two (graphs_read_known p.graphs && graphs_count (plan_of p) p.graphs p.graphs) _ three;
      numbers = and_two _ _ four;
      closed = λ f graph is n block there v l. (known_blocks p.graphs known f graph is n block there).closed v l;
      agrees = agree;
      countable = graphs_join (plan_of p) p.graphs p.graphs (known_blocks p.graphs known) (and_two (graphs_read_known p.graphs) _ two);
    }

pub passes_if : {E : Type 0} (p : LlProgram) (structs : List LlStruct) (counted : List Bool) (counts : List Counts) (slots : Slots) (graphs : List LlGraph) (r : Result Bool E) → structs ≡ p.structs → graphs ≡ p.graphs → counted ≡ counted_structs structs graphs
    → slots ≡ slots_of counted graphs (length graphs) → counts ≡ counts_behind counted 0 (behind slots) structs → IfOk r (λ yes. yes ≡ plan_passes (plan_with structs counted counts slots) graphs) → IfOk r (λ yes. yes ≡ true → Passes p)
passes_if p structs counted counts slots graphs (Err e) a b c d f h = tt
passes_if p structs counted counts slots graphs (Ok good) a b c d f h = λ t.
    (let is_counted : counted ≡ counted_structs p.structs p.graphs = c ∙ ap (λ s. counted_structs s graphs) a ∙ ap (counted_structs p.structs) b in
    let is_slots : slots ≡ slots_of (counted_structs p.structs p.graphs) p.graphs (length p.graphs) = d ∙ ap (λ l. slots_of counted l (length l)) b ∙ ap (λ l. slots_of l p.graphs (length p.graphs)) is_counted in
    let is_counts : counts ≡ counts_behind (counted_structs p.structs p.graphs) 0 (behind (slots_of (counted_structs p.structs p.graphs) p.graphs (length p.graphs))) p.structs =
    f ∙ ap (counts_behind counted 0 (behind slots)) a ∙ ap (λ s. counts_behind counted 0 (behind s) p.structs) is_slots ∙ ap (λ l. counts_behind l 0 (behind (slots_of (counted_structs p.structs p.graphs) p.graphs (length p.graphs))) p.structs) is_counted in
    let plan : plan_with structs counted counts slots ≡ plan_of p =
    ap (λ s. plan_with s counted counts slots) a ∙ ap (λ l. plan_with p.structs l counts slots) is_counted ∙ ap (λ l. plan_with p.structs (counted_structs p.structs p.graphs) l slots) is_counts
    ∙ ap (plan_with p.structs (counted_structs p.structs p.graphs) (counts_behind (counted_structs p.structs p.graphs) 0 (behind (slots_of (counted_structs p.structs p.graphs) p.graphs (length p.graphs))) p.structs)) is_slots in
    passes_so p (sym (ap (plan_passes (plan_of p)) b) ∙ sym (ap (λ q. plan_passes q graphs) plan) ∙ sym h ∙ t))
