-- The state of the machine that runs a low-level program, at any stage. Values, blocks of memory and what a step tells are those of the
-- machine of C files.
use Rattle.std.specs.Prelude.{ℕ, List, Option}
use Rattle.rpy_base.specs.declared.outcome.Outcome.{Outcome}
use Rattle.csub_tree.specs.State.{Value, Core, Event}
use Rattle.csub_tree.specs.declared.stuck.StuckReason.{StuckReason}
use Rattle.ll_code.specs.declared.program.LlOp.{LlOp}
use Rattle.ll_code.specs.declared.program.LlExit.{LlExit}

-- a call that waits for one that it made: its graph, block and place, its variables, the one that takes the result, if one does, and
-- what is left of its block
pub record Frame : Type 0 where
  pub graph : ℕ
  pub block : ℕ
  pub at : ℕ
  pub vars : List Value
  pub into : Option ℕ
  pub ops : List LlOp
  pub exit : LlExit

-- a graph is called; the rest of a block is left to do; a graph gives its result; an exception leaves a graph. Who waits stands with
-- the innermost call first. In the core stand the graph that runs, its block and place and its variables, and the memory; nobody
-- waits there
pub data State : Type 0 where
  Calling : (graph : ℕ) → (values : List Value) → (frames : List Frame) → (core : Core) → State
  At : (ops : List LlOp) → (exit : LlExit) → (frames : List Frame) → (core : Core) → State
  Returning : (value : Value) → (frames : List Frame) → (core : Core) → State
  Throwing : (value : Value) → (frames : List Frame) → (core : Core) → State

-- what one step leads to: a state, where it also put a byte, or made or freed a block, with that; the end of the run; or none of these
pub data Next : Type 0 where
  Goes : (state : State) → Next
  Puts : (byte : ℕ) → (state : State) → Next
  Tells : (event : Event) → (state : State) → Next
  Ends : (outcome : Outcome) → (core : Core) → Next
  Sticks : (reason : StuckReason) → Next
