-- What the file of a program with exceptions has made and freed where its run ends.
use Rattle.std.specs.Prelude.{◌≡◌, ◌<◌, ◌≤◌, ℕ, List, [], length}
use Rattle.csub_tree.specs.Meaning as c
use Rattle.csub_tree.specs.State.{Event}
use Rattle.ll_code.specs.State.{State}
use Rattle.ll_code.specs.Machine.{start}
use Rattle.ll_code.specs.Meaning as l
use Rattle.ll_code.specs.declared.program.LlProgram.{LlProgram}
use Rattle.ll_held.specs.Held.{Held}
use Rattle.ll_held.specs.Roots.{roots, core_of}
use Rattle.exc_transform.specs.Pieces.{explicit}
use Rattle.ll_events.specs.Told.{often}
use Rattle.refcount_transform.specs.Counted.{counted}
use Rattle.refcount_exact.specs.Exact.{IsExact}
use Rattle.ll_compiled.specs.Compiled.{compiled, MeansAlike}

-- the file comes to the same ending; no block goes twice, and one that was made and is not gone is held in the program, in the state at
-- which that ends
pub record FileHolds (p : LlProgram) (args : List (List ℕ)) (steps : ℕ) (s : State) (m : l.Meant) : Type 0 where
  pub file : c.Meant
  pub means : c.CMeans (compiled (explicit p)) args steps file
  pub alike : MeansAlike m file
  pub once : (b : ℕ) → often b file.gone ≤ 1
  pub held : (b : ℕ) → b < length file.made → often b file.gone ≡ 0 → Held (core_of s).blocks (roots p s) b

-- the file comes to the same ending, and each block that it made is among those gone, once
pub record FileEmpty (p : LlProgram) (args : List (List ℕ)) (steps : ℕ) (m : l.Meant) : Type 0 where
  pub file : c.Meant
  pub means : c.CMeans (compiled (explicit p)) args steps file
  pub alike : MeansAlike m file
  pub gone : (b : ℕ) → b < length file.made → often b file.gone ≡ 1

-- the counted program comes to a state with the same output in which each count is exact
pub record CountsExactly (p : LlProgram) (args : List (List ℕ)) (steps : ℕ) (text : List ℕ) : Type 0 where
  pub taken : ℕ
  pub state : State
  pub events : List Event
  pub runs : l.run (counted (explicit p)) args taken (start (counted (explicit p)) steps) [] [] ≡ l.Unfinished state text events
  pub exact : IsExact state
