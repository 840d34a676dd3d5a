-- When a low-level program and its C file mean the same.
use Rattle.std.specs.Prelude.{◌≡◌, ℕ, List, [], slice_get, Some}
use Rattle.csub_tree.specs.State.{Event}
use Rattle.csub_tree.specs.Meaning as c
use Rattle.csub_tree.specs.declared.stuck.StuckReason.TheVariants.{Unset}
use Rattle.csub_tree.specs.declared.tree.CFunction.{CFunction}
use Rattle.ll_code.specs.Meaning as l
use Rattle.ll_code.specs.Machine.{step, start}
use Rattle.ll_code.specs.State.{State, Sticks}
use Rattle.ll_code.specs.declared.program.LlGraph.{LlGraph}
use Rattle.ll_code.specs.declared.program.LlProgram.{LlProgram}
use Rattle.genc_lower.specs.Lower.{lowered, order_of, function_of}
use Rattle.genc_laws.specs.Follows.{IsAtLink}

-- the same outcome, or stuck for the same reason
abbrev pub SameEnding : l.Ending → c.Ending → Type 0
SameEnding (l.Came outcome) (c.Came c_outcome) = c_outcome ≡ outcome
SameEnding (l.StuckFor reason) (c.StuckAt c_reason statement) = c_reason ≡ reason
SameEnding ending c_ending = ⊥

-- the same ending, output, blocks made and blocks gone; and where the run came to an outcome, the same steps paid
pub record SameMeant (meant : l.Meant) (c_meant : c.Meant) : Type 0 where
  pub ending : SameEnding meant.ending c_meant.ending
  pub output : c_meant.output ≡ meant.output
  pub made : c_meant.made ≡ meant.made
  pub gone : c_meant.gone ≡ meant.gone
  pub paid : l.comes meant.ending → c_meant.paid ≡ meant.paid

-- the run of the program is stuck at a link, since something that it passes was never set
pub record IsStuckAtLink (p : LlProgram) (args : List (List ℕ)) (steps : ℕ) (meant : l.Meant) : Type 0 where
  pub ending : meant.ending ≡ l.StuckFor Unset
  pub count : ℕ
  pub state : State
  pub text : List ℕ
  pub events : List Event
  pub comes : l.run p args count (start p steps) [] [] ≡ l.Unfinished state text events
  pub at : IsAtLink state
  pub sticks : step p args state ≡ Sticks Unset

-- a graph is a function of the same name
pub record IsFunctionOf (p : LlProgram) (g : ℕ) (graph : LlGraph) : Type 0 where
  pub function : CFunction
  pub at : slice_get (lowered p).functions (function_of (order_of p) g) ≡ Some function
  pub name : function.name ≡ graph.name
