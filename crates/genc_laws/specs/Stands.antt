-- Where a state of a low-level program's machine stands in the program's C file.
use Rattle.std.specs.Prelude.{◌≡◌, ◌+◌, ℕ, true, List, [], ◌∷◌, ◌++◌, length, map, drop, slice_get, Option, Some}
use Rattle.csub_tree.specs.State.{Value, Caller, Core}
use Rattle.csub_tree.specs.Statement.{read, give_back, back_to, last_of}
use Rattle.csub_tree.specs.Machine.{stmt_at}
use Rattle.csub_tree.specs.declared.tree.COperand.{COperand}
use Rattle.csub_tree.specs.declared.tree.CStmt.{CStmt}
use Rattle.csub_tree.specs.declared.tree.CStmt.TheVariants.{Return}
use Rattle.ll_code.specs.State.{Frame, State, Calling, At, Returning, Throwing}
use Rattle.ll_code.specs.declared.program.LlOp.{LlOp}
use Rattle.ll_code.specs.declared.program.LlExit.{LlExit}
use Rattle.ll_code.specs.declared.program.LlExit.TheVariants as exit
use Rattle.ll_code.specs.declared.program.LlGraph.{LlGraph}
use Rattle.ll_code.specs.declared.program.LlProgram.{LlProgram}
use Rattle.genc_lower.specs.Lower.{order_of, lowered, function_of, statement, link_code, exit_code, blocks_code, waiting_types, exit_crosses, any_crosses}
use Rattle.genc_lower.specs.declared.order.Order.{Order}
use Rattle.genc_laws.specs.Same.{renamed, SameVars, SameMemory}

-- how many variables the function of a graph has
abbrev pub count_of : LlGraph → ℕ
count_of graph = length graph.types + length (waiting_types graph)

-- the block of each way of a test
abbrev pub HasWays : Order → LlGraph → List (List CStmt) → ℕ → LlExit → Type 0
HasWays order graph code next (exit.If a there elsewhere) = (slice_get code next ≡ Some (link_code order graph there)) × (slice_get code (next + 1) ≡ Some (link_code order graph elsewhere))
HasWays order graph code next other = Unit {0}

-- what is left of a block of the graph is what stands at a place of a block of its function
pub record LeftAt (order : Order) (graph : LlGraph) (ops : List LlOp) (exit : LlExit) (block at : ℕ) : Type 0 where
  pub stmts : List CStmt
  pub next : ℕ
  pub of : slice_get (blocks_code order graph) block ≡ Some stmts
  pub left : drop at stmts ≡ map (statement order) ops ++ exit_code order graph next exit
  pub ways : HasWays order graph (blocks_code order graph) next exit
  pub wait : exit_crosses graph exit ≡ true → any_crosses graph graph.blocks ≡ true

-- ---- who waits

pub record WaitsAt (p : LlProgram) (frame : Frame) (caller : Caller) (graph : LlGraph) : Type 0 where
  pub of : slice_get p.graphs frame.graph ≡ Some graph
  pub function : caller.function ≡ function_of (order_of p) frame.graph
  pub into : caller.into ≡ frame.into
  pub left : LeftAt (order_of p) graph frame.ops frame.exit caller.block caller.at
  pub vars : SameVars (order_of p) (length graph.types) (count_of graph) frame.vars caller.vars

-- one caller for each frame; the innermost is the last caller, and the first frame
abbrev pub Wait : LlProgram → List Frame → List Caller → Type 0
Wait p [] callers = callers ≡ []
Wait p (frame ∷ frames) callers = (rest : List Caller) × (caller : Caller) × (graph : LlGraph) × (callers ≡ rest ++ caller ∷ []) × WaitsAt p frame caller graph × Wait p frames rest

-- ---- states

-- a graph is called: its function is at its first statement
pub record StandsCalling (p : LlProgram) (f : ℕ) (values : List Value) (frames : List Frame) (core c_core : Core) (graph : LlGraph) : Type 0 where
  pub of : slice_get p.graphs f ≡ Some graph
  pub function : c_core.function ≡ function_of (order_of p) f
  pub block : c_core.block ≡ 0
  pub at : c_core.at ≡ 0
  pub size : length c_core.vars ≡ count_of graph
  pub vars : (a : ℕ) → read c_core.vars a ≡ renamed (order_of p) (read values a)
  pub memory : SameMemory (order_of p) core c_core
  pub waiting : Wait p frames c_core.callers

-- a graph runs
pub record StandsAt (p : LlProgram) (ops : List LlOp) (exit : LlExit) (frames : List Frame) (core c_core : Core) (graph : LlGraph) : Type 0 where
  pub of : slice_get p.graphs core.function ≡ Some graph
  pub function : c_core.function ≡ function_of (order_of p) core.function
  pub left : LeftAt (order_of p) graph ops exit c_core.block c_core.at
  pub vars : SameVars (order_of p) (length graph.types) (count_of graph) core.vars c_core.vars
  pub memory : SameMemory (order_of p) core c_core
  pub waiting : Wait p frames c_core.callers

-- a graph gives its result: its function is about to return it
pub record StandsReturning (p : LlProgram) (value : Value) (frames : List Frame) (core c_core : Core) : Type 0 where
  pub what : Option COperand
  pub statement : stmt_at (lowered p).functions c_core ≡ Some (Return what)
  pub gives : give_back c_core what ≡ back_to c_core (renamed (order_of p) value) (last_of c_core.callers)
  pub memory : SameMemory (order_of p) core c_core
  pub waiting : Wait p frames c_core.callers

-- no exception leaves a call at the last stage
abbrev pub Stands : LlProgram → State → Core → Type 0
Stands p (Calling f values frames core) c_core = (graph : LlGraph) × StandsCalling p f values frames core c_core graph
Stands p (At ops exit frames core) c_core = (graph : LlGraph) × StandsAt p ops exit frames core c_core graph
Stands p (Returning value frames core) c_core = StandsReturning p value frames core c_core
Stands p (Throwing value frames core) c_core = ⊥
