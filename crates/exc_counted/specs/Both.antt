-- A program whose exceptions can be made explicit, and the references of whose explicit program can then be counted.
use Rattle.std.specs.Prelude.{◌≡◌, ◌==◌, ◌&&◌, not, Bool, true, List, [], ◌∷◌, Some}
use Rattle.ll_code.specs.Typed.{IsWellTyped}
use Rattle.ll_code.specs.declared.program.LlStage.TheVariants as stage
use Rattle.ll_code.specs.declared.program.LlOp.{LlOp}
use Rattle.ll_code.specs.declared.program.LlOp.TheVariants as op
use Rattle.ll_code.specs.declared.program.LlExit.{LlExit}
use Rattle.ll_code.specs.declared.program.LlExit.TheVariants as exit
use Rattle.ll_code.specs.declared.program.LlBlock.{LlBlock}
use Rattle.ll_code.specs.declared.program.LlGraph.{LlGraph}
use Rattle.ll_code.specs.declared.program.LlProgram.{LlProgram}
use Rattle.exc_laws.specs.Holds.{HasFewVariables}
use Rattle.exc_ready.specs.Raisable.{IsRaisable}
use Rattle.refcount_typed.specs.Leads.{LeadsToRoots}
use Rattle.refcount_typed.specs.Numbered.{HasNumbers}
use Rattle.refcount_checks.specs.Countable.{most, is_countable}

-- what catches an exception that its own block raises is another variable than the one that is raised
abbrev pub catches_other : List LlOp → LlExit → Bool
catches_other (op.Raise v ∷ []) (exit.OnRaise a (Some by) without) = not (a == v)
catches_other [] e = true
catches_other (o ∷ ops) e = catches_other ops e

abbrev pub blocks_catch_others : List LlBlock → Bool
blocks_catch_others [] = true
blocks_catch_others (block ∷ blocks) = catches_other block.ops block.exit && blocks_catch_others blocks

abbrev pub graphs_catch_others : List LlGraph → Bool
graphs_catch_others [] = true
graphs_catch_others (graph ∷ graphs) = blocks_catch_others graph.blocks && graphs_catch_others graphs

-- all of this is tests
pub record CanBeBoth (p : LlProgram) : Type 0 where
  pub typed : IsWellTyped p
  pub raw : p.stage ≡ stage.Raw
  pub raisable : IsRaisable p
  pub catches : graphs_catch_others p.graphs ≡ true
  pub few : HasFewVariables most p
  pub leads : LeadsToRoots p
  pub numbers : HasNumbers p
  pub countable : is_countable p ≡ true
