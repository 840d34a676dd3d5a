-- What is asked of a run of a program, and what then is known of the counted program of its explicit one.
use Rattle.std.specs.Prelude.{◌≡◌, ℕ, List, [], Some}
use Rattle.csub_tree.specs.State.{Block, Event}
use Rattle.ll_code.specs.State.{State}
use Rattle.ll_code.specs.Machine.{start}
use Rattle.ll_code.specs.Meaning.{Unfinished, run}
use Rattle.ll_code.specs.Typed.{IsWellTyped}
use Rattle.ll_code.specs.declared.program.LlStage.TheVariants as stage
use Rattle.ll_code.specs.declared.program.LlProgram.{LlProgram}
use Rattle.ll_held.specs.Held.{Held}
use Rattle.ll_held.specs.Roots.{roots, core_of}
use Rattle.exc_transform.specs.Pieces.{explicit}
use Rattle.exc_ready.specs.Raisable.{IsRaisable}
use Rattle.exc_ready.specs.Along.{EachState, RaisesClassed}
use Rattle.refcount_transform.specs.Counted.{counted}
use Rattle.refcount_laws.specs.Touched.{block_in}
use Rattle.refcount_ready.specs.Programs.{RunsSmall}
use Rattle.ll_compiled.specs.Compiled.{CanBeCompiled}

-- its exceptions can be made explicit, and the explicit program can be compiled
pub record HasFile (p : LlProgram) : Type 0 where
  pub typed : IsWellTyped p
  pub raw : p.stage ≡ stage.Raw
  pub raisable : IsRaisable p
  pub can : CanBeCompiled (explicit p)

-- what it raises has a class, and the explicit program's run is small and writes no reference into a static
pub record RunsWell (p : LlProgram) (args : List (List ℕ)) (steps : ℕ) : Type 0 where
  pub classed : EachState (RaisesClassed p) p args steps
  pub small : RunsSmall (explicit p) args steps

-- the counted program comes to a state with the same output in which each block that is there is held in this one
pub record HoldsWhatIsThere (p : LlProgram) (args : List (List ℕ)) (steps : ℕ) (s : State) (text : List ℕ) : Type 0 where
  pub taken : ℕ
  pub state : State
  pub events : List Event
  pub runs : run (counted (explicit p)) args taken (start (counted (explicit p)) steps) [] [] ≡ Unfinished state text events
  pub held : (b : ℕ) (block : Block) → block_in (core_of state).blocks b ≡ Some block → Held (core_of s).blocks (roots p s) b
