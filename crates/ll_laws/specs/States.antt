-- When a state of a run is well typed: each value is of the type of its place, and what is left to do keeps the rules of its graph.
use Rattle.std.specs.Prelude.{◌≡◌, ℕ, true, List, [], ◌∷◌, length, slice_get, Some}
use Rattle.csub_tree.specs.Statement.{read}
use Rattle.csub_tree.specs.State.{Value, Core}
use Rattle.ll_code.specs.declared.program.LlType.{LlType}
use Rattle.ll_code.specs.declared.program.LlType.TheVariants as type
use Rattle.ll_code.specs.declared.program.LlOp.{LlOp}
use Rattle.ll_code.specs.declared.program.LlExit.{LlExit}
use Rattle.ll_code.specs.declared.program.LlGraph.{LlGraph}
use Rattle.ll_code.specs.declared.program.LlProgram.{LlProgram}
use Rattle.ll_code.specs.State.{Frame, State, Calling, At, Returning, Throwing, Next, Goes, Puts, Tells, Ends, Sticks}
use Rattle.ll_code.specs.Typed.{operations_ok, exit_ok, result_ok}
use Rattle.ll_code.specs.Meaning.{Ran, Ended, Unfinished}
use Rattle.ll_laws.specs.Fits.{Fits, AllFit, exception, MemoryFits, CoreFits}

-- ---- who waits

-- a call of this graph that waits for a result of this type
pub record WaitsFor (p : LlProgram) (made : ℕ) (result : LlType) (graph : LlGraph) (frame : Frame) : Type 0 where
  pub of : slice_get p.graphs frame.graph ≡ Some graph
  pub vars : AllFit p made graph.types frame.vars
  pub into : result_ok graph.types frame.into result ≡ true
  pub ops : operations_ok p graph.types frame.ops ≡ true
  pub exit : exit_ok p graph frame.exit ≡ true

-- each call waits for what the one before it gives; the first graph gives a word
abbrev pub FramesFit : LlProgram → ℕ → LlType → List Frame → Type 0
FramesFit p made result [] = result ≡ type.Signed
FramesFit p made result (frame ∷ frames) = (graph : LlGraph) × WaitsFor p made result graph frame × FramesFit p made graph.result frames

-- ---- states

abbrev pub CoreMemoryFits : LlProgram → Core → Type 0
CoreMemoryFits p core = MemoryFits p core.blocks core.statics core.exc_type core.exc_value

-- a graph is called with a value for each parameter, and the parameters are its first variables
pub record CallingFits (p : LlProgram) (f : ℕ) (values : List Value) (frames : List Frame) (core : Core) (graph : LlGraph) : Type 0 where
  pub of : slice_get p.graphs f ≡ Some graph
  pub count : length values ≡ length graph.params
  pub given : (a : ℕ) (t : LlType) → slice_get graph.types a ≡ Some t → Fits p (length core.blocks) t (read values a)
  pub waiting : FramesFit p (length core.blocks) graph.result frames
  pub memory : CoreMemoryFits p core

-- a graph runs
pub record AtFits (p : LlProgram) (ops : List LlOp) (exit : LlExit) (frames : List Frame) (core : Core) (graph : LlGraph) : Type 0 where
  pub of : slice_get p.graphs core.function ≡ Some graph
  pub fits : CoreFits p graph.types core
  pub left : operations_ok p graph.types ops ≡ true
  pub end : exit_ok p graph exit ≡ true
  pub waiting : FramesFit p (length core.blocks) graph.result frames

-- a graph with a result of this type gives a value, or an exception
pub record LeavesFits (p : LlProgram) (t : LlType) (value : Value) (frames : List Frame) (core : Core) (result : LlType) : Type 0 where
  pub fits : Fits p (length core.blocks) t value
  pub waiting : FramesFit p (length core.blocks) result frames
  pub memory : CoreMemoryFits p core

abbrev pub StateFits : LlProgram → State → Type 0
StateFits p (Calling f values frames core) = (graph : LlGraph) × CallingFits p f values frames core graph
StateFits p (At ops exit frames core) = (graph : LlGraph) × AtFits p ops exit frames core graph
StateFits p (Returning value frames core) = (t : LlType) × LeavesFits p t value frames core t
StateFits p (Throwing value frames core) = (t : LlType) × LeavesFits p exception value frames core t

-- what a step leads to, and where a run stands
abbrev pub NextFits : LlProgram → Next → Type 0
NextFits p (Goes state) = StateFits p state
NextFits p (Puts byte state) = StateFits p state
NextFits p (Tells event state) = StateFits p state
NextFits p (Ends outcome core) = Unit {0}
NextFits p (Sticks reason) = Unit {0}

abbrev pub RanFits : LlProgram → Ran → Type 0
RanFits p (Unfinished state text events) = StateFits p state
RanFits p (Ended ending steps text events) = Unit {0}
