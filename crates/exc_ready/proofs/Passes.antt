-- What the test says of each graph, block and rest of a block.
use Rattle.std.proofs.Common.{◌≡◌, ℕ, zero, suc, Bool, true, false, ◌&&◌, ◌||◌, ◌==◌, List, [], ◌∷◌, Option, Some, None, refl, sym, ap, ◌∙◌, subst}
use Rattle.std.specs.Prelude.{slice_get, not}
use Rattle.ll_code.specs.declared.program.LlType.{LlType}
use Rattle.ll_code.specs.declared.program.LlOp.{LlOp}
use Rattle.ll_code.specs.declared.program.LlExit.{LlExit}
use Rattle.ll_code.specs.declared.program.LlBlock.{LlBlock}
use Rattle.ll_code.specs.declared.program.LlGraph.{LlGraph}
use Rattle.ll_code.specs.declared.program.LlProgram.{LlProgram}
use Rattle.ll_laws.proofs.Values.{and_left, and_right, is_same}
use Rattle.ll_live.specs.Live.{among, sets, set_by}
use Rattle.ll_held.specs.Places.{PlacedAt}
use Rattle.exc_transform.specs.Explicit.{is_marked}
use Rattle.exc_transform.specs.Live.{live, handler_reads}
use Rattle.exc_laws.specs.Ready.{marks_of, any_of, IsClosed, uses_slots, next_uses_slots, is_apart}
use Rattle.exc_ready.specs.Raisable.{root_of, exit_raises_alike, sets_none_of, ops_raisable, all_among, block_raisable, blocks_raisable, takes_params, graph_raisable, graphs_raisable, IsRaisable}
use Rattle.exc_ready.proofs.Placed.{placed_holds}

pub is_not : (b : Bool) → not b ≡ true → b ≡ false
is_not true h = absurd (cc)
is_not false h = refl

-- ---- variables among others

pub all_within : (vs ws : List ℕ) → all_among vs ws ≡ true → (v : ℕ) → among v vs ≡ true → among v ws ≡ true
all_within [] ws h v k = absurd (cc)
all_within (w ∷ vs) ws h v k = one (λ k. all_within vs ws (and_right (among w ws) _ h) v k) (w == v) refl k
  where
    one : (among v vs ≡ true → among v ws ≡ true) → (b : Bool) → (w == v) ≡ b → (b || among v vs) ≡ true → among v ws ≡ true
    one go true e k = subst (λ v. among v ws ≡ true) (is_same w v e) (and_left _ _ h)
    one go false e k = go k

-- ---- graphs and blocks

module _ (p : LlProgram) where
  graph_within : (graphs : List LlGraph) → graphs_raisable p graphs ≡ true → (f : ℕ) (graph : LlGraph) → slice_get graphs f ≡ Some graph → graph_raisable p graph ≡ true
  graph_within [] h f graph e = absurd (cc)
  graph_within (x ∷ graphs) h zero graph e = let s : x ≡ graph = cc in subst (λ g. graph_raisable p g ≡ true) s (and_left _ _ h)
  graph_within (x ∷ graphs) h (suc f) graph e = graph_within graphs (and_right (graph_raisable p x) _ h) f graph e

  block_within : (types : List LlType) (blocks : List LlBlock) → blocks_raisable p types blocks ≡ true → (n : ℕ) (block : LlBlock) → slice_get blocks n ≡ Some block → block_raisable p types block ≡ true
  block_within types [] h n block e = absurd (cc)
  block_within types (x ∷ blocks) h zero block e = let s : x ≡ block = cc in subst (λ b. block_raisable p types b ≡ true) s (and_left _ _ h)
  block_within types (x ∷ blocks) h (suc n) block e = block_within types blocks (and_right (block_raisable p types x) _ h) n block e

  module _ (passes : IsRaisable p) where
    pub entry_unmarked : is_marked (marks_of p) p.entry ≡ false
    entry_unmarked = is_not _ (and_right _ _ passes)

    pub graph_passes : (f : ℕ) (graph : LlGraph) → slice_get p.graphs f ≡ Some graph → graph_raisable p graph ≡ true
    graph_passes f graph e = graph_within p.graphs (and_left _ _ passes) f graph e

    pub takes_parameters : (f : ℕ) (graph : LlGraph) → slice_get p.graphs f ≡ Some graph → (block : LlBlock) → slice_get graph.blocks 0 ≡ Some block → (v : ℕ) → among v block.inputs ≡ true → among v graph.params ≡ true
    takes_parameters f graph e block is v h =
        let t : takes_params graph.params (slice_get graph.blocks 0) ≡ true = and_left _ _ (graph_passes f graph e) in
        all_within block.inputs graph.params (subst (λ o. takes_params graph.params o ≡ true) is t) v h

    pub block_passes : (f : ℕ) (graph : LlGraph) → slice_get p.graphs f ≡ Some graph → (n : ℕ) (block : LlBlock) → slice_get graph.blocks n ≡ Some block → block_raisable p graph.types block ≡ true
    block_passes f graph e n block is = block_within graph.types graph.blocks (and_right (takes_params graph.params (slice_get graph.blocks 0)) _ (graph_passes f graph e)) n block is

    pub closed : IsClosed p
    closed f graph e n block is v h = all_within (live (marks_of p) (any_of p) block.ops block.exit) block.inputs (and_left _ _ (and_left _ _ (block_passes f graph e n block is))) v h

    -- ---- what is left to do

    pub ops_pass : (f n place : ℕ) (ops : List LlOp) (e : LlExit) → PlacedAt p f n place ops e → (graph : LlGraph) → slice_get p.graphs f ≡ Some graph → ops_raisable (root_of p) graph.types ops e ≡ true
    ops_pass f n place ops e h graph of =
        placed_holds p (λ ops e. ops_raisable (root_of p) graph.types ops e ≡ true) (λ e o ops k. and_right _ _ k) f n place ops e
        (λ other block is at. let s : Some other ≡ Some graph = sym is ∙ of in let same : other ≡ graph = cc in
        subst (λ (g : LlGraph). ops_raisable (root_of p) g.types block.ops block.exit ≡ true) same (and_right _ _ (and_left _ _ (block_passes f other is n block at)))) h

    pub exit_passes : (f n place : ℕ) (ops : List LlOp) (e : LlExit) → PlacedAt p f n place ops e → (graph : LlGraph) → slice_get p.graphs f ≡ Some graph → exit_raises_alike (root_of p) graph.types e ≡ true
    exit_passes f n place ops e h graph of =
        placed_holds p (λ ops e. exit_raises_alike (root_of p) graph.types e ≡ true) (λ e o ops k. k) f n place ops e
        (λ other block is at. let s : Some other ≡ Some graph = sym is ∙ of in let same : other ≡ graph = cc in
        subst (λ (g : LlGraph). exit_raises_alike (root_of p) g.types block.exit ≡ true) same (and_right _ _ (block_passes f other is n block at))) h

    -- the slots are left alone
    pub slots_alone : (root : ℕ) (types : List LlType) (ops : List LlOp) (e : LlExit) → ops_raisable root types ops e ≡ true → next_uses_slots ops ≡ false
    slots_alone root types [] e h = refl
    slots_alone root types (o ∷ ops) e h = is_not (uses_slots o) (and_right _ _ (and_left _ _ (and_left _ _ h)))

    -- what catches an exception of the next operation reads nothing that it sets
    apart_by : (vs : List ℕ) (o : Option ℕ) → sets_none_of o vs ≡ true → (v : ℕ) → not (among v vs && sets o v) ≡ true
    apart_by vs None h v = by (among v vs)
      where
        by : (b : Bool) → not (b && false) ≡ true
        by true = refl
        by false = refl
    apart_by vs (Some a) h v = one (a == v) refl
      where
        not_both : (b : Bool) → b ≡ false → not (b && true) ≡ true
        not_both true e = absurd (cc)
        not_both false e = refl

        and_false : (b : Bool) → not (b && false) ≡ true
        and_false true = refl
        and_false false = refl

        one : (b : Bool) → (a == v) ≡ b → not (among v vs && b) ≡ true
        one true e = not_both (among v vs) (ap (λ v. among v vs) (sym (is_same a v e)) ∙ is_not (among a vs) h)
        one false e = and_false (among v vs)

    pub apart : (root : ℕ) (types : List LlType) (ops : List LlOp) (e : LlExit) → ops_raisable root types ops e ≡ true → (v : ℕ) → is_apart ops e v ≡ true
    apart root types [] e h v = refl
    apart root types (o ∷ ops) e h v = apart_by (handler_reads ops e) (set_by o) (and_right _ _ (and_left _ _ h)) v
