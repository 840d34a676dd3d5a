-- What the tests of a program say of its graphs, blocks and operations.
use Rattle.std.proofs.Common.{◌≡◌, ◌<◌, ℕ, zero, suc, ◌-◌, Bool, true, false, ◌&&◌, List, [], ◌∷◌, length, drop, Option, Some, None, refl, sym, ap, ◌∙◌, subst}
use Rattle.std.specs.Prelude.{slice_get, not, is_some}
use Rattle.ll_code.specs.Machine.{block_in}
use Rattle.ll_code.specs.State.{Frame}
use Rattle.ll_code.specs.declared.program.LlType.{LlType}
use Rattle.ll_code.specs.declared.program.LlStruct.{LlStruct}
use Rattle.ll_code.specs.declared.program.LlOp.{LlOp}
use Rattle.ll_code.specs.declared.program.LlExit.{LlExit}
use Rattle.ll_code.specs.declared.program.LlBlock.{LlBlock}
use Rattle.ll_code.specs.declared.program.LlGraph.{LlGraph}
use Rattle.ll_code.specs.declared.program.LlProgram.{LlProgram}
use Rattle.ll_code.specs.Typed.{graph_ok, graphs_ok}
use Rattle.ll_laws.proofs.Values.{and_left, and_right, is_less}
use Rattle.ll_held.specs.Places.{PlacedAt}
use Rattle.ll_held.specs.Roots.{operation_in, under_way}
use Rattle.ll_held.proofs.Keeping.{or_left, or_right}
use Rattle.ll_live.specs.Live.{among, reads, set_by}
use Rattle.refcount_transform.specs.Plan.{Plan, plan_of, root_of, referred, reference_given, has_root, made_by, ops_make, blocks_make, graphs_make}
use Rattle.refcount_transform.specs.Changes.{around_of, var_referred}
use Rattle.refcount_laws.specs.Matches.{AllRoots}
use Rattle.refcount_laws.specs.Leaves.{InputsAreApart}
use Rattle.refcount_typed.specs.Leads.{LeadsToRoots, graph_leads, graphs_lead, ops_lead, blocks_lead, op_leads}
use Rattle.refcount_typed.proofs.Calls.{lead_at}
use Rattle.refcount_typed.proofs.Fields.{given_root}
use Rattle.refcount_checks.specs.Countable.{most, sets_unread, op_countable, ops_countable, block_countable, blocks_countable, graph_countable, graphs_countable, number_follows, numbers_follow, is_countable}

-- ---- where operations stand

pub drop_get : {A : Type 0} (n : ℕ) (xs ys : List A) (x : A) → drop n xs ≡ x ∷ ys → slice_get xs n ≡ Some x
drop_get zero [] ys x e = absurd (cc)
drop_get zero (z ∷ xs) ys x e = cc
drop_get (suc n) [] ys x e = absurd (cc)
drop_get (suc n) (z ∷ xs) ys x e = drop_get n xs ys x e

-- an operation of a block of a graph of the program
pub record Stands (p : LlProgram) (graph : LlGraph) (o : LlOp) : Type 0 where
  pub f : ℕ
  pub there : slice_get p.graphs f ≡ Some graph
  pub n : ℕ
  pub block : LlBlock
  pub of : slice_get graph.blocks n ≡ Some block
  pub at : ℕ
  pub is : slice_get block.ops at ≡ Some o

pub stands_placed : (p : LlProgram) (graph : LlGraph) (f n at : ℕ) (o : LlOp) (ops : List LlOp) (e : LlExit) → slice_get p.graphs f ≡ Some graph → PlacedAt p f n at (o ∷ ops) e → Stands p graph o
stands_placed p graph f n at o ops e there placed =
    record { f = f; there = there; n = n; block = placed.block; of = ap (λ g. block_in g n) (sym there) ∙ placed.of; at = at; is = drop_get at placed.block.ops ops o placed.left }

pub stands_under : (p : LlProgram) (graph : LlGraph) (frame : Frame) (o : LlOp) → slice_get p.graphs frame.graph ≡ Some graph → under_way p frame ≡ Some o → Stands p graph o
stands_under p graph frame o there under = by (slice_get graph.blocks frame.block) refl (ap (λ g. operation_in (block_in g frame.block) (frame.at - 1)) (sym there) ∙ under)
  where
    by : (b : Option LlBlock) → slice_get graph.blocks frame.block ≡ b → operation_in b (frame.at - 1) ≡ Some o → Stands p graph o
    by None e h = absurd (cc)
    by (Some block) e h = record { f = frame.graph; there = there; n = frame.block; block = block; of = e; at = frame.at - 1; is = h }

-- ---- the test of the program

ops_each : (plan : Plan) (graphs : List LlGraph) (types : List LlType) (ops : List LlOp) (k : ℕ) (o : LlOp) → ops_countable plan graphs types ops ≡ true → slice_get ops k ≡ Some o → op_countable plan graphs types o ≡ true
ops_each plan graphs types [] k o h e = absurd (cc)
ops_each plan graphs types (x ∷ ops) zero o h e = let f : x ≡ o = cc in subst (λ o. op_countable plan graphs types o ≡ true) f (and_left _ _ h)
ops_each plan graphs types (x ∷ ops) (suc k) o h e = ops_each plan graphs types ops k o (and_right _ _ h) e

blocks_each : (plan : Plan) (graphs : List LlGraph) (types : List LlType) (blocks : List LlBlock) (k : ℕ) (block : LlBlock) → blocks_countable plan graphs types blocks ≡ true → slice_get blocks k ≡ Some block → block_countable plan graphs types block ≡ true
blocks_each plan graphs types [] k block h e = absurd (cc)
blocks_each plan graphs types (x ∷ blocks) zero block h e = let f : x ≡ block = cc in subst (λ o. block_countable plan graphs types o ≡ true) f (and_left _ _ h)
blocks_each plan graphs types (x ∷ blocks) (suc k) block h e = blocks_each plan graphs types blocks k block (and_right _ _ h) e

graphs_each : (plan : Plan) (all graphs : List LlGraph) (k : ℕ) (graph : LlGraph) → graphs_countable plan all graphs ≡ true → slice_get graphs k ≡ Some graph → graph_countable plan all graph ≡ true
graphs_each plan all [] k graph h e = absurd (cc)
graphs_each plan all (x ∷ graphs) zero graph h e = let f : x ≡ graph = cc in subst (λ o. graph_countable plan all o ≡ true) f (and_left _ _ h)
graphs_each plan all (x ∷ graphs) (suc k) graph h e = graphs_each plan all graphs k graph (and_right _ _ h) e

leads_ops : (plan : Plan) (types : List LlType) (ops : List LlOp) (k : ℕ) (o : LlOp) → ops_lead plan types ops ≡ true → slice_get ops k ≡ Some o → op_leads plan types o ≡ true
leads_ops plan types [] k o h e = absurd (cc)
leads_ops plan types (x ∷ ops) zero o h e = let f : x ≡ o = cc in subst (λ o. op_leads plan types o ≡ true) f (and_left _ _ h)
leads_ops plan types (x ∷ ops) (suc k) o h e = leads_ops plan types ops k o (and_right _ _ h) e

leads_blocks : (plan : Plan) (types : List LlType) (blocks : List LlBlock) (k : ℕ) (block : LlBlock) → blocks_lead plan types blocks ≡ true → slice_get blocks k ≡ Some block → ops_lead plan types block.ops ≡ true
leads_blocks plan types [] k block h e = absurd (cc)
leads_blocks plan types (x ∷ blocks) zero block h e = let f : x ≡ block = cc in subst (λ o. ops_lead plan types o.ops ≡ true) f (and_left _ _ h)
leads_blocks plan types (x ∷ blocks) (suc k) block h e = leads_blocks plan types blocks k block (and_right _ _ h) e

numbers_from : (plan : Plan) (before : Option LlOp) (n : ℕ) (xs : List LlOp) (o : LlOp) (ops : List LlOp) → numbers_follow plan before xs ≡ true → drop n xs ≡ o ∷ ops → numbers_follow plan (Some o) ops ≡ true
numbers_from plan before zero [] o ops h e = absurd (cc)
numbers_from plan before zero (x ∷ xs) o ops h e =
    let f : x ≡ o = cc in let g : xs ≡ ops = cc in
    subst (λ o. numbers_follow plan (Some o) ops ≡ true) f (subst (λ l. numbers_follow plan (Some x) l ≡ true) g (and_right (number_follows plan before x) (numbers_follow plan (Some x) xs) h))
numbers_from plan before (suc n) [] o ops h e = absurd (cc)
numbers_from plan before (suc n) (x ∷ xs) o ops h e = numbers_from plan (Some x) n xs o ops (and_right (number_follows plan before x) (numbers_follow plan (Some x) xs) h) e

module _ (p : LlProgram) (countable : is_countable p ≡ true) where
  pub graph_test : (f : ℕ) (graph : LlGraph) → slice_get p.graphs f ≡ Some graph → graph_countable (plan_of p) p.graphs graph ≡ true
  graph_test f graph e = graphs_each (plan_of p) p.graphs p.graphs f graph countable e

  block_test : (f : ℕ) (graph : LlGraph) → slice_get p.graphs f ≡ Some graph → (n : ℕ) (block : LlBlock) → slice_get graph.blocks n ≡ Some block → block_countable (plan_of p) p.graphs graph.types block ≡ true
  block_test f graph e n block b = blocks_each (plan_of p) p.graphs graph.types graph.blocks n block (and_right _ _ (graph_test f graph e)) b

  pub op_test : (graph : LlGraph) (o : LlOp) → Stands p graph o → op_countable (plan_of p) p.graphs graph.types o ≡ true
  op_test graph o w = ops_each (plan_of p) p.graphs graph.types w.block.ops w.at o (and_right _ _ (and_left _ _ (block_test w.f graph w.there w.n w.block w.of))) w.is

  pub inputs_apart : (f : ℕ) (graph : LlGraph) → slice_get p.graphs f ≡ Some graph → InputsAreApart graph
  inputs_apart f graph e n block b = and_left _ _ (and_left _ _ (and_left _ _ (block_test f graph e n block b)))

  pub inputs_few : (f : ℕ) (graph : LlGraph) → slice_get p.graphs f ≡ Some graph → (n : ℕ) (block : LlBlock) → slice_get graph.blocks n ≡ Some block → length block.inputs < most
  inputs_few f graph e n block b = is_less (length block.inputs) most (and_right _ _ (and_left _ _ (and_left _ _ (block_test f graph e n block b))))

  pub numbers_first : (f : ℕ) (graph : LlGraph) → slice_get p.graphs f ≡ Some graph → (n : ℕ) (block : LlBlock) → slice_get graph.blocks n ≡ Some block → numbers_follow (plan_of p) None block.ops ≡ true
  numbers_first f graph e n block b = and_right _ _ (block_test f graph e n block b)

  pub numbers_behind : (f : ℕ) (graph : LlGraph) → slice_get p.graphs f ≡ Some graph → (n at : ℕ) (o : LlOp) (ops : List LlOp) (e : LlExit) → PlacedAt p f n at (o ∷ ops) e → numbers_follow (plan_of p) (Some o) ops ≡ true
  numbers_behind f graph e n at o ops ex placed = numbers_from (plan_of p) None at placed.block.ops o ops (numbers_first f graph e n placed.block (ap (λ g. block_in g n) (sym e) ∙ placed.of)) placed.left

  -- what it sets, where that is a reference, it does not read
  pub unread : (graph : LlGraph) (o : LlOp) → Stands p graph o → (a n : ℕ) → set_by o ≡ Some a → var_referred (around_of (plan_of p) graph.types) a ≡ Some n → among a (reads o) ≡ false
  unread graph o w a n e r = by (var_referred (around_of (plan_of p) graph.types) a) (among a (reads o)) r (subst (λ s. sets_unread (plan_of p) graph.types o s ≡ true) e (and_left _ _ (op_test graph o w)))
    where
      by : (x : Option ℕ) (y : Bool) → x ≡ Some n → not (is_some x && y) ≡ true → y ≡ false
      by None y e h = absurd (cc)
      by (Some k) true e h = absurd (cc)
      by (Some k) false e h = refl

leads_graphs : (plan : Plan) (graphs : List LlGraph) (f : ℕ) (graph : LlGraph) → graphs_lead plan graphs ≡ true → slice_get graphs f ≡ Some graph → graph_leads plan graph ≡ true
leads_graphs plan [] f graph h e = absurd (cc)
leads_graphs plan (x ∷ graphs) zero graph h e = let i : x ≡ graph = cc in ap (graph_leads plan) (sym i) ∙ and_left _ _ h
leads_graphs plan (x ∷ graphs) (suc f) graph h e = leads_graphs plan graphs f graph (and_right _ _ h) e

module _ (p : LlProgram) (leads : LeadsToRoots p) where
  graph_test_ : (f : ℕ) (graph : LlGraph) → slice_get p.graphs f ≡ Some graph → graph_leads (plan_of p) graph ≡ true
  graph_test_ f graph e = leads_graphs (plan_of p) p.graphs f graph (and_right _ _ leads) e

  pub all_roots : (f : ℕ) (graph : LlGraph) → slice_get p.graphs f ≡ Some graph → AllRoots p graph.types
  all_roots f graph e v n r = given_root (plan_of p) (var_referred (around_of (plan_of p) graph.types) v) n r (lead_at (plan_of p) graph.types v (and_left _ _ (and_left _ _ (graph_test_ f graph e))))

  pub result_root : (f : ℕ) (graph : LlGraph) → slice_get p.graphs f ≡ Some graph → (n : ℕ) → reference_given (plan_of p).counted (Some graph.result) ≡ Some n → root_of (plan_of p) n ≡ n
  result_root f graph e n r = given_root (plan_of p) (referred (plan_of p) graph.result) n r (and_right _ _ (and_left _ _ (graph_test_ f graph e)))

  pub op_lead_test : (graph : LlGraph) (o : LlOp) → Stands p graph o → op_leads (plan_of p) graph.types o ≡ true
  op_lead_test graph o w = leads_ops (plan_of p) graph.types w.block.ops w.at o (leads_blocks (plan_of p) graph.types graph.blocks w.n w.block (and_right _ _ (graph_test_ w.f graph w.there)) w.of) w.is

-- ---- what is well typed

pub graph_good : (p : LlProgram) (gs : List LlGraph) (f : ℕ) (g : LlGraph) → graphs_ok p gs ≡ true → slice_get gs f ≡ Some g → graph_ok p g ≡ true
graph_good p [] f g h e = absurd (cc)
graph_good p (x ∷ gs) zero g h e = let s : x ≡ g = cc in subst (λ g. graph_ok p g ≡ true) s (and_left _ _ h)
graph_good p (x ∷ gs) (suc f) g h e = graph_good p gs f g (and_right _ _ h) e

-- ---- what is made

module _ (structs : List LlStruct) (r : ℕ) where
  ops_made : (ops : List LlOp) (k : ℕ) (o : LlOp) → slice_get ops k ≡ Some o → has_root structs r (made_by o) ≡ true → ops_make structs r ops ≡ true
  ops_made [] k o e h = absurd (cc)
  ops_made (x ∷ ops) zero o e h = let f : x ≡ o = cc in or_left _ _ (ap (λ o. has_root structs r (made_by o)) f ∙ h)
  ops_made (x ∷ ops) (suc k) o e h = or_right _ _ (ops_made ops k o e h)

  blocks_made : (blocks : List LlBlock) (n : ℕ) (block : LlBlock) → slice_get blocks n ≡ Some block → ops_make structs r block.ops ≡ true → blocks_make structs r blocks ≡ true
  blocks_made [] n block e h = absurd (cc)
  blocks_made (x ∷ blocks) zero block e h = let f : x ≡ block = cc in or_left _ _ (ap (λ b. ops_make structs r b.ops) f ∙ h)
  blocks_made (x ∷ blocks) (suc n) block e h = or_right _ _ (blocks_made blocks n block e h)

  graphs_made : (graphs : List LlGraph) (n : ℕ) (graph : LlGraph) → slice_get graphs n ≡ Some graph → blocks_make structs r graph.blocks ≡ true → graphs_make structs r graphs ≡ true
  graphs_made [] n graph e h = absurd (cc)
  graphs_made (x ∷ graphs) zero graph e h = let f : x ≡ graph = cc in or_left _ _ (ap (λ b. blocks_make structs r b.blocks) f ∙ h)
  graphs_made (x ∷ graphs) (suc n) graph e h = or_right _ _ (graphs_made graphs n graph e h)

pub stands_made : (p : LlProgram) (graph : LlGraph) (o : LlOp) (r : ℕ) → Stands p graph o → has_root p.structs r (made_by o) ≡ true → graphs_make p.structs r p.graphs ≡ true
stands_made p graph o r w h = graphs_made p.structs r p.graphs w.f graph w.there (blocks_made p.structs r graph.blocks w.n w.block w.of (ops_made p.structs r w.block.ops w.at o w.is h))
