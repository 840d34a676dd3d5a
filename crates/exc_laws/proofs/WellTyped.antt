-- The explicit program of a well-typed one is well typed.
use Rattle.std.proofs.Common.{◌≡◌, ℕ, Bool, true, false, ◌&&◌, List, [], ◌∷◌, map, Option, Some, None, refl, sym, ap, ◌∙◌}
use Rattle.std.specs.Prelude.{slice_get, cond, option_map}
use Rattle.ll_code.specs.Typed.{IsWellTyped, is_counted, operation_ok, operations_ok, exit_ok, block_ok, blocks_ok, structs_ok, statics_ok, graph_ok, graphs_ok, begins_run}
use Rattle.ll_code.specs.declared.program.LlStage.TheVariants as stage
use Rattle.ll_code.specs.declared.program.LlType.{LlType}
use Rattle.ll_code.specs.declared.program.LlOp.{LlOp}
use Rattle.ll_code.specs.declared.program.LlOp.TheVariants as op
use Rattle.ll_code.specs.declared.program.LlExit.{LlExit}
use Rattle.ll_code.specs.declared.program.LlExit.TheVariants as exit
use Rattle.ll_code.specs.declared.program.LlBlock.{LlBlock}
use Rattle.ll_code.specs.declared.program.LlGraph.{LlGraph}
use Rattle.ll_code.specs.declared.program.LlProgram.{LlProgram}
use Rattle.ll_laws.proofs.Values.{and_left, and_right}
use Rattle.exc_transform.specs.declared.family.Family.{Family}
use Rattle.exc_transform.specs.Explicit.{is_calm, are_calm, leaves_calmly, block_calm, blocks_calm, graphs_calm}
use Rattle.exc_transform.specs.Raising.{raising_graphs}
use Rattle.exc_transform.specs.Families.{in_graphs, family_of}
use Rattle.exc_transform.specs.Pieces.{graph_of, graphs_of, explicit}
use Rattle.exc_laws.proofs.Tests.{and_both, length_map, get_map}
use Rattle.exc_laws.proofs.Statics.{with_graphs, statics_same}
use Rattle.exc_laws.proofs.Kept.{New}
use Rattle.exc_laws.proofs.Families.{FamilyFits, graphs_within, graphs_none, family_fits}
use Rattle.exc_laws.proofs.Pieces.{graph_kept}

module _ (p : LlProgram) (ok : IsWellTyped p) (raw : p.stage ≡ stage.Raw) where
  structs_are : structs_ok p.structs 0 p.structs ≡ true
  structs_are = and_left _ _ (and_left _ _ (and_left _ _ ok))

  statics_are : statics_ok p 0 p.statics ≡ true
  statics_are = and_right (structs_ok p.structs 0 p.structs) _ (and_left _ _ (and_left _ _ ok))

  graphs_are : graphs_ok p p.graphs ≡ true
  graphs_are = and_right (structs_ok p.structs 0 p.structs && statics_ok p 0 p.statics) _ (and_left _ _ ok)

  -- ---- some exception is raised or caught

  module _ (family : Family) (marks : List Bool) (fits : FamilyFits p.structs family) where
    each_kept : (graphs : List LlGraph) → graphs_ok p graphs ≡ true → graphs_ok (New p family marks) (map (graph_of family marks) graphs) ≡ true
    each_kept [] h = refl
    each_kept (g ∷ graphs) h =
        and_both (graph_ok (New p family marks) (graph_of family marks g)) (graphs_ok (New p family marks) (map (graph_of family marks) graphs)) (graph_kept p raw family marks fits g (and_left _ _ h))
        (each_kept graphs (and_right (graph_ok p g) _ h))

    begins_kept : (o : Option LlGraph) → begins_run (option_map (graph_of family marks) o) ≡ begins_run o
    begins_kept None = refl
    begins_kept (Some g) = refl

    new_typed : IsWellTyped (New p family marks)
    new_typed =
        and_both _ (begins_run (slice_get (map (graph_of family marks) p.graphs) p.entry))
        (and_both _ (graphs_ok (New p family marks) (map (graph_of family marks) p.graphs))
        (and_both _ (statics_ok (New p family marks) 0 p.statics) structs_are
        (statics_same p stage.Explicit (map (graph_of family marks) p.graphs) (length_map (graph_of family marks) p.graphs) 0 p.statics ∙ statics_are))
        (each_kept p.graphs graphs_are))
        (ap begins_run (get_map (graph_of family marks) p.graphs p.entry) ∙ begins_kept (slice_get p.graphs p.entry) ∙ and_right _ _ ok)

  family_is : graphs_calm p.graphs ≡ false → FamilyFits p.structs (family_of p.structs p.graphs)
  family_is calm = one (in_graphs p.graphs) refl
    where
      one : (o : Option ℕ) → in_graphs p.graphs ≡ o → FamilyFits p.structs (family_of p.structs p.graphs)
      one None e = absurd (let f : true ≡ false = sym (graphs_none p p.graphs graphs_are e) ∙ calm in cc)
      one (Some n) e = family_fits p.structs structs_are p.graphs n e (graphs_within p p.graphs graphs_are n e)

  -- ---- none is: what keeps the rules keeps them at the next stage

  abbrev Later : LlProgram
  Later = with_graphs p stage.Explicit p.graphs

  operation_later : (types : List LlType) (o : LlOp) → is_calm o ≡ true → operation_ok p types o ≡ true → operation_ok Later types o ≡ true
  operation_later types (op.Free a) c h = absurd (let f : true ≡ false = sym (and_left (is_counted p.stage) _ h) ∙ ap is_counted raw in cc)
  operation_later types (op.Raise a) c h = absurd (cc)
  operation_later types other c h = h

  operations_later : (types : List LlType) (ops : List LlOp) → are_calm ops ≡ true → operations_ok p types ops ≡ true → operations_ok Later types ops ≡ true
  operations_later types [] c h = refl
  operations_later types (o ∷ ops) c h =
      and_both (operation_ok Later types o) (operations_ok Later types ops) (operation_later types o (and_left _ _ c) (and_left _ _ h)) (operations_later types ops (and_right (is_calm o) _ c) (and_right (operation_ok p types o) _ h))

  exit_later : (g : LlGraph) (e : LlExit) → leaves_calmly e ≡ true → exit_ok p g e ≡ true → exit_ok Later g e ≡ true
  exit_later g (exit.OnRaise a by without) c h = absurd (cc)
  exit_later g (exit.Raise a) c h = absurd (cc)
  exit_later g other c h = h

  blocks_later : (g : LlGraph) (blocks : List LlBlock) → blocks_calm blocks ≡ true → blocks_ok p g blocks ≡ true → blocks_ok Later g blocks ≡ true
  blocks_later g [] c h = refl
  blocks_later g (b ∷ blocks) c h =
      and_both (block_ok Later g b) (blocks_ok Later g blocks)
      (and_both (operations_ok Later g.types b.ops) (exit_ok Later g b.exit) (operations_later g.types b.ops (and_left _ _ (and_left _ _ c)) (and_left _ _ (and_left _ _ h)))
      (exit_later g b.exit (and_right (are_calm b.ops) _ (and_left _ _ c)) (and_right (operations_ok p g.types b.ops) _ (and_left _ _ h))))
      (blocks_later g blocks (and_right (block_calm b) _ c) (and_right (block_ok p g b) _ h))

  graphs_later : (graphs : List LlGraph) → graphs_calm graphs ≡ true → graphs_ok p graphs ≡ true → graphs_ok Later graphs ≡ true
  graphs_later [] c h = refl
  graphs_later (g ∷ graphs) c h =
      and_both (graph_ok Later g) (graphs_ok Later graphs) (and_both _ (blocks_ok Later g g.blocks) (and_left _ _ (and_left _ _ h)) (blocks_later g g.blocks (and_left _ _ c) (and_right _ _ (and_left _ _ h))))
      (graphs_later graphs (and_right (blocks_calm g.blocks) _ c) (and_right (graph_ok p g) _ h))

  later_typed : graphs_calm p.graphs ≡ true → IsWellTyped Later
  later_typed c =
      and_both _ (begins_run (slice_get p.graphs p.entry))
      (and_both _ (graphs_ok Later p.graphs) (and_both _ (statics_ok Later 0 p.statics) structs_are (statics_same p stage.Explicit p.graphs refl 0 p.statics ∙ statics_are)) (graphs_later p.graphs c graphs_are))
      (and_right _ _ ok)

  pub explicit_typed : IsWellTyped (explicit p)
  explicit_typed = one (graphs_calm p.graphs) refl
    where
      one : (b : Bool) → graphs_calm p.graphs ≡ b → IsWellTyped (with_graphs p stage.Explicit (cond b p.graphs (graphs_of p.structs p.graphs)))
      one false e = new_typed (family_of p.structs p.graphs) (raising_graphs p.graphs) (family_is e)
      one true e = later_typed e
