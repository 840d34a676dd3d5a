-- When a state of the explicit program holds no more than one of the program.
use Rattle.std.specs.Prelude.{◌≡◌, ◌≤◌, ◌<◌, ℕ, List, [], length, slice_get, Some}
use Rattle.rpy_base.specs.declared.outcome.Outcome.{Outcome}
use Rattle.csub_tree.specs.State.{Core, Event}
use Rattle.ll_code.specs.State.{State, Ends}
use Rattle.ll_code.specs.Machine.{step, start}
use Rattle.ll_code.specs.Meaning.{run, Unfinished}
use Rattle.ll_code.specs.declared.program.LlGraph.{LlGraph}
use Rattle.ll_code.specs.declared.program.LlProgram.{LlProgram}
use Rattle.exc_transform.specs.Pieces.{explicit}
use Rattle.ll_held.specs.Roots.{roots, core_of, waiting_roots}
use Rattle.ll_held.specs.Held.{references, Held, IsBelow}
use Rattle.ll_held.specs.Quiet.{StaticsAreApart, frames_of}

-- the same blocks stand in both; what the second holds the first holds too, and who waits there holds no more references
pub record HoldsNoMore (p : LlProgram) (s x : State) : Type 0 where
  pub blocks : (core_of x).blocks ≡ (core_of s).blocks
  pub held : (b : ℕ) → Held (core_of x).blocks (roots (explicit p) x) b → Held (core_of s).blocks (roots p s) b
  pub waiting : references (waiting_roots (explicit p) (frames_of x)) ≤ references (waiting_roots p (frames_of s))

-- some steps on from a state, with the same put and told, the program holds no less, and ends where the explicit program ends
pub record Found (p : LlProgram) (args : List (List ℕ)) (s : State) (text : List ℕ) (events : List Event) (x : State) (on : List ℕ) (more : List Event) : Type 0 where
  pub count : ℕ
  pub state : State
  pub ran : run p args count s text events ≡ Unfinished state on more
  pub holds : HoldsNoMore p state x
  pub ends : (outcome : Outcome) (core : Core) → step (explicit p) args x ≡ Ends outcome core → (other : Core) × (step p args state ≡ Ends outcome other)

-- in each state of the run the statics name no block
abbrev pub AreApartOn : LlProgram → List (List ℕ) → ℕ → Type 0
AreApartOn p args steps = (k : ℕ) (s : State) (text : List ℕ) (events : List Event) → run p args k (start p steps) [] [] ≡ Unfinished s text events → StaticsAreApart (core_of s)

-- in each state of the run, fewer than so many references stand in the roots and in what is held
abbrev pub IsSmallOn : ℕ → LlProgram → List (List ℕ) → ℕ → Type 0
IsSmallOn most p args steps = (k : ℕ) (s : State) (text : List ℕ) (events : List Event) → run p args k (start p steps) [] [] ≡ Unfinished s text events → IsBelow most (core_of s).blocks (roots p s)

-- no graph has as many variables
abbrev pub HasFewVariables : ℕ → LlProgram → Type 0
HasFewVariables most p = (f : ℕ) (graph : LlGraph) → slice_get p.graphs f ≡ Some graph → length graph.types < most
