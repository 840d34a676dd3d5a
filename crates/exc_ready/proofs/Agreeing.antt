-- The explicit program uses its slots alike, and raises and frees nothing.
use Rattle.std.proofs.Common.{◌≡◌, ℕ, Bool, true, false, List, [], ◌∷◌, length, map, Some, refl, sym, ap, ◌∙◌}
use Rattle.std.specs.Prelude.{slice_get, cond}
use Rattle.ll_code.specs.Typed.{IsWellTyped, has_type, operation_ok, operations_ok, block_ok, blocks_ok, graph_ok, graphs_ok, is_counted}
use Rattle.ll_code.specs.declared.program.LlStage.TheVariants as stage
use Rattle.ll_code.specs.declared.program.LlType.{LlType}
use Rattle.ll_code.specs.declared.program.LlType.TheVariants as type
use Rattle.ll_code.specs.declared.program.LlOp.{LlOp}
use Rattle.ll_code.specs.declared.program.LlOp.TheVariants as op
use Rattle.ll_code.specs.declared.program.LlExit.{LlExit}
use Rattle.ll_code.specs.declared.program.LlExit.TheVariants as exit
use Rattle.ll_code.specs.declared.program.LlBlock.{LlBlock}
use Rattle.ll_code.specs.declared.program.LlGraph.{LlGraph}
use Rattle.ll_code.specs.declared.program.LlProgram.{LlProgram}
use Rattle.ll_laws.proofs.Values.{and_left, and_right, has_type_is}
use Rattle.ll_points.specs.Agrees.{Slots, op_agrees, ops_agree, exit_agrees, block_agrees, blocks_agree, graphs_agree, Agrees}
use Rattle.exc_transform.specs.Explicit.{is_calm, are_calm, leaves_calmly, block_calm, blocks_calm, graphs_calm, or_else, kind_of}
use Rattle.exc_transform.specs.Pieces.{blocks_of, graph_of, graphs_of, explicit}
use Rattle.exc_transform.proofs.Without.{made_calm}
use Rattle.exc_laws.specs.Ready.{marks_of, exceptions_of, uses_slots}
use Rattle.exc_laws.specs.Stands.{around_in, explicit_graph}
use Rattle.exc_laws.proofs.Tests.{and_both, equals, get_left}
use Rattle.exc_ready.specs.Raisable.{root_of, slots_for, ops_raisable, block_raisable, blocks_raisable, graph_raisable, graphs_raisable, IsRaisable}
use Rattle.exc_ready.proofs.Passes.{is_not}
use Rattle.exc_ready.proofs.Made.{ops_all, blocks_all, More, Types, Excepts, Accepts, Own, OwnAll, graph_holds}

ops_are : (slots : Slots) (types : List LlType) (ops : List LlOp) → ops_all (op_agrees slots types) ops ≡ true → ops_agree slots types ops ≡ true
ops_are slots types [] h = refl
ops_are slots types (o ∷ ops) h = and_both (op_agrees slots types o) (ops_agree slots types ops) (and_left _ _ h) (ops_are slots types ops (and_right (op_agrees slots types o) _ h))

exit_calm : (e : LlExit) → leaves_calmly e ≡ true → exit_agrees e ≡ true
exit_calm (exit.OnRaise a by without) h = absurd (cc)
exit_calm (exit.Raise a) h = absurd (cc)
exit_calm other h = refl

abbrev ops_hold : Slots → List LlType → LlBlock → Bool
ops_hold slots types block = ops_all (op_agrees slots types) block.ops

blocks_are : (slots : Slots) (types : List LlType) (blocks : List LlBlock) → blocks_all (ops_hold slots types) blocks ≡ true → blocks_calm blocks ≡ true → blocks_agree slots types blocks ≡ true
blocks_are slots types [] h k = refl
blocks_are slots types (b ∷ blocks) h k =
    and_both (block_agrees slots types b) (blocks_agree slots types blocks)
    (and_both (ops_agree slots types b.ops) (exit_agrees b.exit) (ops_are slots types b.ops (and_left _ _ h)) (exit_calm b.exit (and_right (are_calm b.ops) _ (and_left _ _ k))))
    (blocks_are slots types blocks (and_right (ops_hold slots types b) _ h) (and_right (block_calm b) _ k))

module _ (p : LlProgram) (ok : IsWellTyped p) (raw : p.stage ≡ stage.Raw) where
  -- an operation that raises and frees nothing, and leaves the slots alone
  own_agrees : (checked types : List LlType) (o : LlOp) → uses_slots o ≡ false → operation_ok p checked o ≡ true → is_calm o ≡ true → op_agrees (slots_for p) types o ≡ true
  own_agrees checked types (op.Free a) s h c = absurd (let f : true ≡ false = sym (and_left (is_counted p.stage) _ h) ∙ ap is_counted raw in cc)
  own_agrees checked types (op.Raise a) s h c = absurd (cc)
  own_agrees checked types (op.ExcType a n) s h c = absurd (cc)
  own_agrees checked types (op.ExcValue a n) s h c = absurd (cc)
  own_agrees checked types (op.ExcSet a b) s h c = absurd (cc)
  own_agrees checked types op.ExcClear s h c = absurd (cc)
  own_agrees checked types other s h c = refl

  -- ---- some exception is raised or caught

  abbrev Any : List LlOp → LlExit → Type 0
  Any ops e = Unit {0}

  any_next : (o : LlOp) (ops : List LlOp) (e : LlExit) → Any (o ∷ ops) e → Any ops e
  any_next o ops e h = tt

  module _ (g : LlGraph) where
    typed_more : (v : ℕ) → Excepts p Any any_next g v → slice_get (Types p Any any_next g) v ≡ Some (type.Ptr (root_of p))
    typed_more v h = get_left g.types (More p Any any_next g) v (type.Ptr (root_of p)) (has_type_is (type.Ptr (root_of p)) (slice_get g.types v) h)

    is_root : (v : ℕ) → Excepts p Any any_next g v → has_type (type.Ptr (root_of p)) (slice_get (Types p Any any_next g) v) ≡ true
    is_root v h = ap (has_type (type.Ptr (root_of p))) (typed_more v h) ∙ equals (root_of p) (root_of p) refl

    accepts : Accepts p Any any_next g (op_agrees (slots_for p) (Types p Any any_next g))
    accepts = record {
      alone = λ v e h. and_both (has_type (type.Ptr (kind_of (exceptions_of p))) (slice_get (Types p Any any_next g) v)) (has_type (type.Ptr (root_of p)) (slice_get (Types p Any any_next g) v))
          (ap (λ o. has_type (type.Ptr (or_else (root_of p) o)) (slice_get (Types p Any any_next g) v)) e ∙ is_root v h) (is_root v h);
      names = λ t n v e h. refl;
      puts = λ t v h. and_both (has_type (type.Ptr (kind_of (exceptions_of p))) (slice_get (Types p Any any_next g) (length g.types))) (has_type (type.Ptr (root_of p)) (slice_get (Types p Any any_next g) v))
          (ap (has_type (type.Ptr (kind_of (exceptions_of p)))) t.0 ∙ equals (kind_of (exceptions_of p)) (kind_of (exceptions_of p)) refl) (is_root v h);
      asks = λ t. equals (kind_of (exceptions_of p)) (kind_of (exceptions_of p)) refl;
      tests = λ t. refl;
      takes = λ a h. equals (root_of p) (root_of p) refl;
      clears = refl;
      gives = λ a v by without other h k. refl;
    }

    own_ops : (ops : List LlOp) (e : LlExit) → ops_raisable (root_of p) g.types ops e ≡ true → operations_ok p g.types ops ≡ true → Own p Any any_next g (op_agrees (slots_for p) (Types p Any any_next g)) accepts ops
    own_ops [] e h k = tt
    own_ops (o ∷ ops) e h k = (own_agrees g.types (Types p Any any_next g) o (is_not (uses_slots o) (and_right _ _ (and_left _ _ (and_left _ _ h)))) (and_left _ _ k), own_ops ops e (and_right _ _ h) (and_right (operation_ok p g.types o) _ k))

    own_all : (blocks : List LlBlock) → blocks_raisable p g.types blocks ≡ true → blocks_ok p g blocks ≡ true → OwnAll p Any any_next g (op_agrees (slots_for p) (Types p Any any_next g)) accepts blocks
    own_all [] h k = tt
    own_all (b ∷ blocks) h k =
        (own_ops b.ops b.exit (and_right _ _ (and_left _ _ (and_left _ _ h))) (and_left _ _ (and_left _ _ k)), tt, own_all blocks (and_right (block_raisable p g.types b) _ h) (and_right (block_ok p g b) _ k))

    graph_agrees : graph_raisable p g ≡ true → graph_ok p g ≡ true → blocks_calm (explicit_graph p g).blocks ≡ true → blocks_agree (slots_for p) (explicit_graph p g).types (explicit_graph p g).blocks ≡ true
    graph_agrees h k calm =
        blocks_are (slots_for p) (Types p Any any_next g) (blocks_of (around_in p g) g.blocks)
        (graph_holds p Any any_next g (op_agrees (slots_for p) (Types p Any any_next g)) accepts (and_right _ _ h) (own_all g.blocks (and_right _ _ h) (and_right _ _ k))) calm

  graphs_made : (graphs : List LlGraph) → graphs_raisable p graphs ≡ true → graphs_ok p graphs ≡ true → graphs_calm (map (graph_of (exceptions_of p) (marks_of p)) graphs) ≡ true
      → graphs_agree (slots_for p) (map (graph_of (exceptions_of p) (marks_of p)) graphs) ≡ true
  graphs_made [] h k calm = refl
  graphs_made (g ∷ graphs) h k calm =
      and_both (blocks_agree (slots_for p) (explicit_graph p g).types (explicit_graph p g).blocks) (graphs_agree (slots_for p) (map (graph_of (exceptions_of p) (marks_of p)) graphs))
      (graph_agrees g (and_left _ _ h) (and_left _ _ k) (and_left _ _ calm))
      (graphs_made graphs (and_right (graph_raisable p g) _ h) (and_right (graph_ok p g) _ k) (and_right (blocks_calm (explicit_graph p g).blocks) _ calm))

  -- ---- none is

  ops_calm : (types : List LlType) (ops : List LlOp) (e : LlExit) → ops_raisable (root_of p) types ops e ≡ true → operations_ok p types ops ≡ true → are_calm ops ≡ true → ops_agree (slots_for p) types ops ≡ true
  ops_calm types [] e h k c = refl
  ops_calm types (o ∷ ops) e h k c =
      and_both (op_agrees (slots_for p) types o) (ops_agree (slots_for p) types ops) (own_agrees types types o (is_not (uses_slots o) (and_right _ _ (and_left _ _ (and_left _ _ h)))) (and_left _ _ k) (and_left _ _ c))
      (ops_calm types ops e (and_right _ _ h) (and_right (operation_ok p types o) _ k) (and_right (is_calm o) _ c))

  blocks_same : (g : LlGraph) (blocks : List LlBlock) → blocks_raisable p g.types blocks ≡ true → blocks_ok p g blocks ≡ true → blocks_calm blocks ≡ true → blocks_agree (slots_for p) g.types blocks ≡ true
  blocks_same g [] h k c = refl
  blocks_same g (b ∷ blocks) h k c =
      and_both (block_agrees (slots_for p) g.types b) (blocks_agree (slots_for p) g.types blocks)
      (and_both (ops_agree (slots_for p) g.types b.ops) (exit_agrees b.exit)
      (ops_calm g.types b.ops b.exit (and_right _ _ (and_left _ _ (and_left _ _ h))) (and_left _ _ (and_left _ _ k)) (and_left _ _ (and_left _ _ c)))
      (exit_calm b.exit (and_right (are_calm b.ops) _ (and_left _ _ c))))
      (blocks_same g blocks (and_right (block_raisable p g.types b) _ h) (and_right (block_ok p g b) _ k) (and_right (block_calm b) _ c))

  graphs_same : (graphs : List LlGraph) → graphs_raisable p graphs ≡ true → graphs_ok p graphs ≡ true → graphs_calm graphs ≡ true → graphs_agree (slots_for p) graphs ≡ true
  graphs_same [] h k c = refl
  graphs_same (g ∷ graphs) h k c =
      and_both (blocks_agree (slots_for p) g.types g.blocks) (graphs_agree (slots_for p) graphs) (blocks_same g g.blocks (and_right _ _ (and_left _ _ h)) (and_right _ _ (and_left _ _ k)) (and_left _ _ c))
      (graphs_same graphs (and_right (graph_raisable p g) _ h) (and_right (graph_ok p g) _ k) (and_right (blocks_calm g.blocks) _ c))

  pub explicit_agrees : IsRaisable p → Agrees (slots_for p) (explicit p)
  explicit_agrees passes = by (graphs_calm p.graphs) refl (made_calm p.structs p.graphs (explicit p).graphs refl)
    where
      by : (b : Bool) → graphs_calm p.graphs ≡ b → graphs_calm (cond b p.graphs (graphs_of p.structs p.graphs)) ≡ true → graphs_agree (slots_for p) (cond b p.graphs (graphs_of p.structs p.graphs)) ≡ true
      by true e calm = graphs_same p.graphs (and_left _ _ passes) (and_right _ _ (and_left _ _ ok)) e
      by false e calm = graphs_made p.graphs (and_left _ _ passes) (and_right _ _ (and_left _ _ ok)) calm
