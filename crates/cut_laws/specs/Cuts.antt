-- Blocks that are cut into pieces: each but the last ends by the exceptions of its last operation, and otherwise goes on to the next one, which takes
-- the variables under their own names.
use Rattle.std.specs.Prelude.{◌≡◌, ℕ, false, List, [], ◌∷◌, ◌++◌, map, slice_get, Some}
use Rattle.csub_tree.specs.State.{Value, Core}
use Rattle.csub_tree.specs.Statement.{operands, any_unset}
use Rattle.csub_tree.specs.declared.tree.COperand.TheVariants.{Var}
use Rattle.ll_code.specs.State.{Frame, State, Calling, At, Returning, Throwing}
use Rattle.ll_code.specs.declared.program.LlOp.{LlOp}
use Rattle.ll_code.specs.declared.program.LlExit.{LlExit}
use Rattle.ll_code.specs.declared.program.LlExit.TheVariants as exit
use Rattle.ll_code.specs.declared.program.LlLink.{LlLink}
use Rattle.ll_code.specs.declared.program.LlBlock.{LlBlock}
use Rattle.ll_code.specs.declared.program.LlGraph.{LlGraph}
use Rattle.ll_code.specs.declared.program.LlProgram.{LlProgram}
use Rattle.ll_leads.specs.Lifted.{over}
use Rattle.ll_leads.specs.Path.{Path, Leads}

-- What is left of the pieces does what is left of these operations and this exit does. The last piece may have the exit, or go by the link of that;
-- each other one leads to the block of the next.
pub data IsCut (blocks : List LlBlock) (v : ℕ) (by : LlLink) : List LlOp → LlExit → List LlOp → LlExit → Type 0 where
  Whole : (ops : List LlOp) (e : LlExit) → IsCut blocks v by ops e ops e
  Last : (ops : List LlOp) (link : LlLink) → IsCut blocks v by ops (exit.Goto link) ops (exit.OnRaise v (Some by) link)
  Piece : (ops rest : List LlOp) (e : LlExit) (next : LlLink) (block : LlBlock) → slice_get blocks next.to ≡ Some block → next.args ≡ map Var block.inputs → IsCut blocks v by rest e block.ops block.exit
      → IsCut blocks v by (ops ++ rest) e ops (exit.OnRaise v (Some by) next)

-- nothing goes on from here
abbrev pub nothing : LlExit
nothing = exit.Fail 4

-- ---- where the pieces stand

-- the same variables and memory, at another place
abbrev pub elsewhere : ℕ → ℕ → Core → Core
elsewhere block at core = record core { block = block; at = at }

module _ (f : ℕ) (blocks : List LlBlock) (v : ℕ) (by : LlLink) (rest : List LlOp) (e : LlExit) where
  -- A call of the whole waits in the graph `f`, and one of its pieces, with what is left before `rest`.
  pub record WaitsSo (frame piece : Frame) : Type 0 where
    pub nothing_behind : frame.exit ≡ nothing
    pub cut : IsCut blocks v by (frame.ops ++ rest) e piece.ops piece.exit
    pub whole_graph : frame.graph ≡ f
    pub graph : piece.graph ≡ f
    pub vars : piece.vars ≡ frame.vars
    pub into : piece.into ≡ frame.into

  -- The pieces stand where the operations stand: in their own graph, at a call that they made, or within that call, over other calls that wait.
  pub data StandsCut (frames : List Frame) : State → State → Type 0 where
    Here : (ops left : List LlOp) (ends : LlExit) (core : Core) (block at : ℕ) → core.function ≡ f → IsCut blocks v by (ops ++ rest) e left ends → StandsCut frames (At ops nothing [] core) (At left ends frames (elsewhere block at core))
    Called : (g : ℕ) (values : List Value) (frame piece : Frame) (core : Core) (block at : ℕ) → WaitsSo frame piece → StandsCut frames (Calling g values (frame ∷ []) core) (Calling g values (piece ∷ frames) (elsewhere block at core))
    Within : (s : State) (frame piece : Frame) → WaitsSo frame piece → StandsCut frames (over (frame ∷ []) s) (over (piece ∷ frames) s)

-- no exception has left the graph, and it has given nothing back
abbrev pub IsInside : State → Type 0
IsInside (Returning value [] core) = ⊥
IsInside (Throwing value [] core) = ⊥
IsInside other = Unit {0}

-- from here on no piece is left by a link that passes on a variable that is not set
abbrev pub PassesSet : LlProgram → List (List ℕ) → State → Type 0
PassesSet p args s = (v : ℕ) (by next : LlLink) (frames : List Frame) (core : Core) (text : List ℕ) → Path p args s text (At [] (exit.OnRaise v (Some by) next) frames core) → any_unset (operands core.vars next.args) ≡ false

-- the pieces come to where they stand as the operations do then
pub record ComesCut (p : LlProgram) (args : List (List ℕ)) (f : ℕ) (blocks : List LlBlock) (v : ℕ) (by : LlLink) (rest : List LlOp) (e : LlExit) (frames : List Frame) (most : ℕ) (from : State) (text : List ℕ) (u : State) : Type 0 where
  pub state : State
  pub leads : Leads p args most from text state
  pub stands : StandsCut f blocks v by rest e frames u state

-- A way of the operations alone, where nothing waits for them, leads on through the pieces, whatever waits.
abbrev pub CutWaysLeadOn : Type 0
CutWaysLeadOn = (p : LlProgram) (args : List (List ℕ)) (f : ℕ) (graph : LlGraph) (v : ℕ) (by : LlLink) (rest : List LlOp) (e : LlExit) (frames : List Frame) (most : ℕ) (ops left : List LlOp) (ends : LlExit) (core : Core) (block at : ℕ) (text : List ℕ) (u : State)
    → slice_get p.graphs f ≡ Some graph → core.function ≡ f → IsCut graph.blocks v by (ops ++ rest) e left ends → PassesSet p args (At left ends frames (elsewhere block at core))
    → Leads p args most (At ops nothing [] core) text u → IsInside u
    → ComesCut p args f graph.blocks v by rest e frames most (At left ends frames (elsewhere block at core)) text u
