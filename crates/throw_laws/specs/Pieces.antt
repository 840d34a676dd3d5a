-- Blocks that are cut into pieces behind what may raise: each piece but the last ends by the exceptions of its last operation, and otherwise goes on
-- to the next one, which takes variables under their own names.
use Rattle.std.specs.Prelude.{◌≡◌, ◌⊎◌, ℕ, Bool, true, false, List, [], ◌∷◌, ◌++◌, length, map, slice_get, slice_set, Some}
use Rattle.rpy_base.specs.declared.outcome.Outcome.{Outcome}
use Rattle.csub_tree.specs.State.{Value, Core}
use Rattle.csub_tree.specs.Operation.{is_unset}
use Rattle.csub_tree.specs.Statement.{read}
use Rattle.csub_tree.specs.declared.tree.COperand.TheVariants.{Var}
use Rattle.ll_code.specs.State.{Frame, State, Calling, At, Returning, Throwing, Next, Ends}
use Rattle.ll_code.specs.Machine.{step, jump, leaves}
use Rattle.ll_code.specs.declared.program.LlOp.{LlOp}
use Rattle.ll_code.specs.declared.program.LlOp.TheVariants as op
use Rattle.ll_code.specs.declared.program.LlExit.{LlExit}
use Rattle.ll_code.specs.declared.program.LlExit.TheVariants as exit
use Rattle.ll_code.specs.declared.program.LlLink.{LlLink}
use Rattle.ll_code.specs.declared.program.LlBlock.{LlBlock}
use Rattle.ll_code.specs.declared.program.LlGraph.{LlGraph}
use Rattle.ll_code.specs.declared.program.LlProgram.{LlProgram}
use Rattle.ll_leads.specs.Lifted.{over}
use Rattle.ll_leads.specs.Path.{Path}
use Rattle.ll_live.specs.Live.{among}

-- ---- variables

-- what is among the ones is among the others
abbrev pub AllIn : List ℕ → List ℕ → Type 0
AllIn vs others = (v : ℕ) → among v vs ≡ true → among v others ≡ true

abbrev pub AreSet : List ℕ → List Value → Type 0
AreSet vs vars = (v : ℕ) → among v vs ≡ true → is_unset (read vars v) ≡ false

-- ---- what may raise

module _ (quiet : ℕ → Bool) where
  -- an operation out of which no exception comes, where none comes out of these graphs
  abbrev pub is_quiet : LlOp → Bool
  is_quiet (op.Call into g xs) = quiet g
  is_quiet (op.CallFn into result params b xs) = false
  is_quiet (op.Raise a) = false
  is_quiet other = true

  abbrev pub AreQuiet : List LlOp → Type 0
  AreQuiet [] = Unit {0}
  AreQuiet (o ∷ ops) = (is_quiet o ≡ true) × AreQuiet ops

  -- none but the last may raise
  abbrev pub EndsQuietly : List LlOp → Type 0
  EndsQuietly [] = Unit {0}
  EndsQuietly (o ∷ []) = Unit {0}
  EndsQuietly (o ∷ o2 ∷ ops) = (is_quiet o ≡ true) × EndsQuietly (o2 ∷ ops)

-- no exception comes out of a call of these graphs
abbrev pub NeverThrow : LlProgram → List (List ℕ) → (ℕ → Bool) → Type 0
NeverThrow p args quiet = (g : ℕ) → quiet g ≡ true → (values : List Value) (core end : Core) (text : List ℕ) (x : Value) → Path p args (Calling g values [] core) text (Throwing x [] end) → ⊥

-- ---- pieces

module _ (quiet : ℕ → Bool) (needed : List LlOp → List ℕ) (blocks : List LlBlock) (v : ℕ) (by : LlLink) where
  -- What is left of the pieces does what these operations and this exit do. The last piece may have the exit, or go by the link of that, where its last
  -- operation may raise; each other one leads to the block of the next, with variables of those that are needed from there on.
  pub data IsCut : List LlOp → LlExit → List LlOp → LlExit → Type 0 where
    Whole : (ops : List LlOp) (e : LlExit) → AreQuiet quiet ops → IsCut ops e ops e
    Last : (ops : List LlOp) (link : LlLink) → EndsQuietly quiet ops → IsCut ops (exit.Goto link) ops (exit.OnRaise v (Some by) link)
    Piece : (ops rest : List LlOp) (e : LlExit) (next : LlLink) (block : LlBlock) → slice_get blocks next.to ≡ Some block → next.args ≡ map Var block.inputs → EndsQuietly quiet ops → AllIn block.inputs (needed rest) → IsCut rest e block.ops block.exit
        → IsCut (ops ++ rest) e ops (exit.OnRaise v (Some by) next)

-- an exit to no block of the graph: nothing goes on from here
abbrev pub nowhere : LlGraph → LlExit
nowhere graph = exit.Goto (record { to = length graph.blocks; args = [] })

-- ---- where the pieces stand

-- the same variables and memory, at another place
abbrev pub elsewhere : ℕ → ℕ → Core → Core
elsewhere block at core = record core { block = block; at = at }

-- it waits at the end of its piece, where exceptions are caught
abbrev pub IsCaught : ℕ → LlLink → List LlOp → LlExit → Type 0
IsCaught v by ops ends = (ops ≡ []) × ((next : LlLink) × (ends ≡ exit.OnRaise v (Some by) next))

-- more than a call that has just been made
abbrev pub IsEntered : State → Type 0
IsEntered (Calling g values [] core) = ⊥
IsEntered other = Unit {0}

module _ (p : LlProgram) (args : List (List ℕ)) (quiet : ℕ → Bool) (needed : List LlOp → List ℕ) (f : ℕ) (graph : LlGraph) (v : ℕ) (by : LlLink) (e : LlExit) where
  -- A call of the operations waits in the graph `f`, and one of a piece.
  pub record WaitsSo (frame piece : Frame) : Type 0 where
    pub nothing_behind : frame.exit ≡ nowhere graph
    pub cut : IsCut quiet needed graph.blocks v by frame.ops e piece.ops piece.exit
    pub whole_graph : frame.graph ≡ f
    pub piece_graph : piece.graph ≡ f
    pub vars : piece.vars ≡ frame.vars
    pub into : piece.into ≡ frame.into

  -- out of this state no exception comes
  abbrev pub IsSilent : State → Type 0
  IsSilent s = (end : Core) (text : List ℕ) (x : Value) → Path p args s text (Throwing x [] end) → ⊥

  -- The pieces stand where the operations stand: in their own graph, at a call that they made, or within that call, over other calls that wait. Where an
  -- exception may come out of the call, it is caught.
  pub data StandsCut (frames : List Frame) : State → State → Type 0 where
    Here : (ops left : List LlOp) (ends : LlExit) (core : Core) (block at : ℕ) → core.function ≡ f → IsCut quiet needed graph.blocks v by ops e left ends → StandsCut frames (At ops (nowhere graph) [] core) (At left ends frames (elsewhere block at core))
    Called : (g : ℕ) (values : List Value) (frame piece : Frame) (core : Core) (block at : ℕ) → WaitsSo frame piece → (quiet g ≡ true) ⊎ IsCaught v by piece.ops piece.exit
        → StandsCut frames (Calling g values (frame ∷ []) core) (Calling g values (piece ∷ frames) (elsewhere block at core))
    Within : (s : State) (frame piece : Frame) → WaitsSo frame piece → IsEntered s → IsSilent s ⊎ IsCaught v by piece.ops piece.exit → StandsCut frames (over (frame ∷ []) s) (over (piece ∷ frames) s)

  -- no exception has left the operations, and they have given nothing back
  abbrev pub IsInside : State → Type 0
  IsInside (Returning value [] core) = ⊥
  IsInside (Throwing value [] core) = ⊥
  IsInside other = Unit {0}

  -- wherever the operations come, what is needed from there on is set
  abbrev pub IsReady : State → Type 0
  IsReady s = (left : List LlOp) (end : Core) (text : List ℕ) → Path p args s text (At left (nowhere graph) [] end) → AreSet (needed left) end.vars

  -- ---- what the pieces come to

  -- they come to where they stand as the operations do then
  pub record ComesCut (frames : List Frame) (from : State) (text : List ℕ) (u : State) : Type 0 where
    pub state : State
    pub path : Path p args from text state
    pub stands : StandsCut frames u state

  -- the next step is this one
  pub record Comes (from : State) (next : Next) : Type 0 where
    pub state : State
    pub path : Path p args from [] state
    pub steps : step p args state ≡ next

  -- what a state of the operations means for where the pieces stand then
  pub record EndsCut (outcome : Outcome) (end : Core) (from : State) : Type 0 where
    pub core : Core
    pub comes : Comes from (Ends outcome core)
    pub blocks : core.blocks ≡ end.blocks

  -- the exception goes to the first block of the link
  pub record CaughtBy (frames : List Frame) (x : Value) (vars : List Value) (end : Core) (from : State) : Type 0 where
    pub block : ℕ
    pub at : ℕ
    pub comes : Comes from (jump p frames (record end { function = f; block = block; at = at; vars = slice_set vars v x }) by)

  -- the same graph is called, and a piece waits for it, where what it throws is caught
  pub record CallsCut (frames : List Frame) (g : ℕ) (values : List Value) (frame : Frame) (end : Core) (from : State) : Type 0 where
    pub piece : Frame
    pub block : ℕ
    pub at : ℕ
    pub is : from ≡ Calling g values (piece ∷ frames) (elsewhere block at end)
    pub waits : WaitsSo frame piece
    pub caught : IsCaught v by piece.ops piece.exit

-- in a graph of the program, where graphs that are told so never throw
pub record IsSetting (p : LlProgram) (args : List (List ℕ)) (quiet : ℕ → Bool) (f : ℕ) (graph : LlGraph) : Type 0 where
  pub is : slice_get p.graphs f ≡ Some graph
  pub silent : NeverThrow p args quiet

-- A way of the operations alone, where nothing waits for them, leads on through the pieces, whatever waits.
abbrev pub CutWaysLeadOn : Type 0
CutWaysLeadOn = (p : LlProgram) (args : List (List ℕ)) (quiet : ℕ → Bool) (needed : List LlOp → List ℕ) (f : ℕ) (graph : LlGraph) (v : ℕ) (by : LlLink) (e : LlExit) (frames : List Frame) (s x u : State) (text : List ℕ)
    → IsSetting p args quiet f graph → StandsCut p args quiet needed f graph v by e frames s x → IsReady p args quiet needed f graph v by e s → Path p args s text u → IsInside p args quiet needed f graph v by e u
    → ComesCut p args quiet needed f graph v by e frames x text u

-- What comes out of a call that waits in the pieces, or is raised there, goes to the first block of the link, in the variable of that, with the other variables as
-- they are for the operations.
abbrev pub ExceptionsAreCaught : Type 0
ExceptionsAreCaught = (p : LlProgram) (args : List (List ℕ)) (quiet : ℕ → Bool) (needed : List LlOp → List ℕ) (f : ℕ) (graph : LlGraph) (v : ℕ) (by : LlLink) (e : LlExit) (frames : List Frame) (x : Value) (frame : Frame) (core : Core) (from : State)
    → IsSetting p args quiet f graph → StandsCut p args quiet needed f graph v by e frames (Throwing x (frame ∷ []) core) from → CaughtBy p args quiet needed f graph v by e frames x frame.vars core from

abbrev pub RaisesAreCaught : Type 0
RaisesAreCaught = (p : LlProgram) (args : List (List ℕ)) (quiet : ℕ → Bool) (needed : List LlOp → List ℕ) (f : ℕ) (graph : LlGraph) (v : ℕ) (by : LlLink) (e : LlExit) (frames : List Frame) (a : ℕ) (ops : List LlOp) (core : Core) (from : State)
    → IsSetting p args quiet f graph → StandsCut p args quiet needed f graph v by e frames (At (op.Raise a ∷ ops) (nowhere graph) [] core) from → IsReady p args quiet needed f graph v by e (At (op.Raise a ∷ ops) (nowhere graph) [] core)
    → is_unset (read core.vars a) ≡ false → CaughtBy p args quiet needed f graph v by e frames (read core.vars a) core.vars core from

-- a call of a graph that may throw waits where that is caught
abbrev pub CallsAreMade : Type 0
CallsAreMade = (p : LlProgram) (args : List (List ℕ)) (quiet : ℕ → Bool) (needed : List LlOp → List ℕ) (f : ℕ) (graph : LlGraph) (v : ℕ) (by : LlLink) (e : LlExit) (frames : List Frame) (g : ℕ) (values : List Value) (frame : Frame) (core : Core) (from : State)
    → IsSetting p args quiet f graph → quiet g ≡ false → StandsCut p args quiet needed f graph v by e frames (Calling g values (frame ∷ []) core) from → CallsCut p args quiet needed f graph v by e frames g values frame core from

-- Where the operations are done, the pieces go on by the exit.
pub record LeavesCut (p : LlProgram) (args : List (List ℕ)) (quiet : ℕ → Bool) (needed : List LlOp → List ℕ) (f : ℕ) (graph : LlGraph) (v : ℕ) (by : LlLink) (e : LlExit) (frames : List Frame) (core : Core) (from : State) : Type 0 where
  pub block : ℕ
  pub at : ℕ
  pub comes : Comes p args quiet needed f graph v by e from (leaves p e frames (elsewhere block at core))

abbrev pub PiecesGoOn : Type 0
PiecesGoOn = (p : LlProgram) (args : List (List ℕ)) (quiet : ℕ → Bool) (needed : List LlOp → List ℕ) (f : ℕ) (graph : LlGraph) (v : ℕ) (by : LlLink) (e : LlExit) (frames : List Frame) (core : Core) (from : State)
    → IsSetting p args quiet f graph → StandsCut p args quiet needed f graph v by e frames (At [] (nowhere graph) [] core) from → IsReady p args quiet needed f graph v by e (At [] (nowhere graph) [] core)
    → LeavesCut p args quiet needed f graph v by e frames core from

-- Where the run of the operations ends, so does that of the pieces.
abbrev pub PiecesEnd : Type 0
PiecesEnd = (p : LlProgram) (args : List (List ℕ)) (quiet : ℕ → Bool) (needed : List LlOp → List ℕ) (f : ℕ) (graph : LlGraph) (v : ℕ) (by : LlLink) (e : LlExit) (frames : List Frame) (outcome : Outcome) (end : Core) (s from : State)
    → IsSetting p args quiet f graph → StandsCut p args quiet needed f graph v by e frames s from → IsReady p args quiet needed f graph v by e s → step p args s ≡ Ends outcome end
    → EndsCut p args quiet needed f graph v by e outcome end from
