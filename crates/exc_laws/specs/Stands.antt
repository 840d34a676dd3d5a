-- When a state of the explicit program stands where one of the program does.
use Rattle.std.specs.Prelude.{◌≡◌, ◌⊎◌, ℕ, ◌+◌, ◌&&◌, ◌||◌, not, Bool, true, false, List, [], ◌∷◌, length, slice_get, Some, is_some}
use Rattle.csub_tree.specs.State.{Value, Null, Ptr, Core}
use Rattle.csub_tree.specs.Operation.{is_unset}
use Rattle.csub_tree.specs.Statement.{read}
use Rattle.ll_code.specs.State.{Frame, State, Calling, At, Returning, Throwing}
use Rattle.ll_code.specs.declared.program.LlOp.{LlOp}
use Rattle.ll_code.specs.declared.program.LlExit.{LlExit}
use Rattle.ll_code.specs.declared.program.LlBlock.{LlBlock}
use Rattle.ll_code.specs.declared.program.LlGraph.{LlGraph}
use Rattle.ll_code.specs.declared.program.LlProgram.{LlProgram}
use Rattle.exc_transform.specs.Explicit.{is_marked, testing}
use Rattle.exc_transform.specs.Raising.{may_raise, catches, is_last, ops_leave, exit_leaves, some_raises, raises_within}
use Rattle.ll_live.specs.Live.{among, reads, set_by}
use Rattle.exc_transform.specs.Live.{exit_reads, handler_reads}
use Rattle.exc_transform.specs.Pieces.{Around, explicit, around_graph, graph_of, onward, way_block, rest_blocks, behind, piece_ops, piece_exit, test_exit}
use Rattle.ll_held.specs.Roots.{under_way, read_by}
use Rattle.ll_held.specs.Held.{Held}
use Rattle.ll_held.specs.Quiet.{StaticsAreApart}
use Rattle.ll_live.specs.Live.{sets}
use Rattle.exc_laws.specs.Ready.{marks_of, any_of, exceptions_of, is_pointer}

-- ---- graphs

abbrev pub around_in : LlProgram → LlGraph → Around
around_in p graph = around_graph (exceptions_of p) (marks_of p) (any_of p) graph

abbrev pub explicit_graph : LlProgram → LlGraph → LlGraph
explicit_graph p graph = graph_of (exceptions_of p) (marks_of p) graph

-- these blocks stand from this number on
abbrev pub From : List LlBlock → ℕ → List LlBlock → Type 0
From all n [] = Unit {0}
From all n (b ∷ blocks) = (slice_get all n ≡ Some b) × From all (n + 1) blocks

-- ---- variables

-- what is left of a block reads the variable before it sets it; the operation before may raise, or not
abbrev pub needs : LlProgram → Bool → List LlOp → LlExit → ℕ → Bool
needs p raises [] e v = among v (exit_reads raises e)
needs p raises (o ∷ ops) e v = among v (reads o) || (not (sets (set_by o) v) && needs p (may_raise (marks_of p) (any_of p) o) ops e v)

-- ---- memory

-- the same graph, blocks, statics and steps left
pub record Beside (core x_core : Core) : Type 0 where
  pub function : x_core.function ≡ core.function
  pub blocks : x_core.blocks ≡ core.blocks
  pub statics : x_core.statics ≡ core.statics
  pub steps : x_core.steps ≡ core.steps

-- no exception stands in the slots
abbrev pub IsClear : Core → Type 0
IsClear core = (core.exc_type ≡ Null) × (core.exc_value ≡ Null)

-- ---- what is left of a block

-- a piece begins here
pub record PieceAt (p : LlProgram) (graph : LlGraph) (ops : List LlOp) (e : LlExit) (x_ops : List LlOp) (x_exit : LlExit) : Type 0 where
  pub way : ℕ
  pub left : x_ops ≡ piece_ops (around_in p graph) ops e
  pub end : x_exit ≡ piece_exit (around_in p graph) ops e way
  pub blocks : From (explicit_graph p graph).blocks way (behind (around_in p graph) way ops e)

-- a call is tested before these
pub record TestAt (p : LlProgram) (graph : LlGraph) (ops : List LlOp) (e : LlExit) (x_ops : List LlOp) (x_exit : LlExit) : Type 0 where
  pub room : raises_within (marks_of p) (any_of p) graph.blocks ≡ true
  pub way : ℕ
  pub left : x_ops ≡ testing (exceptions_of p) (length graph.types) (length graph.types + 1)
  pub end : x_exit ≡ test_exit (around_in p graph) ops e way
  pub blocks : From (explicit_graph p graph).blocks way (way_block (around_in p graph) ops e ∷ rest_blocks (around_in p graph) ops e way (is_some (onward ops e)) (behind (around_in p graph) (way + 2) ops e))

-- where an exception leaves by these, the graph is marked
abbrev pub Leaving : LlProgram → ℕ → List LlOp → LlExit → Type 0
Leaving p f ops e = (exit_leaves e || ops_leave (marks_of p) (any_of p) ops e) ≡ true → is_marked (marks_of p) f ≡ true

-- where these raise one, caught or not, the graph has the variables for tests
abbrev pub Testing : LlProgram → LlGraph → List LlOp → LlExit → Type 0
Testing p graph ops e = (exit_leaves e || some_raises (marks_of p) (any_of p) ops) ≡ true → raises_within (marks_of p) (any_of p) graph.blocks ≡ true

-- ---- who waits

-- what catches an exception of the call finds what it reads
pub record Handled (frame x_frame : Frame) (v : ℕ) : Type 0 where
  pub same : read x_frame.vars v ≡ read frame.vars v
  pub set : is_unset (read frame.vars v) ≡ false
  pub apart : sets frame.into v ≡ false

pub record Tests (p : LlProgram) (graph : LlGraph) (frame x_frame : Frame) : Type 0 where
  pub test : TestAt p graph frame.ops frame.exit x_frame.ops x_frame.exit
  pub handled : (v : ℕ) → among v (handler_reads frame.ops frame.exit) ≡ true → Handled frame x_frame v
  pub out : (is_last frame.ops && catches frame.exit) ≡ false → is_marked (marks_of p) frame.graph ≡ true

-- a call of graph f waits: both read the same in it; it is tested, or the graph raises nothing
pub record Waits (p : LlProgram) (f : ℕ) (graph : LlGraph) (frame x_frame : Frame) : Type 0 where
  pub of : slice_get p.graphs frame.graph ≡ Some graph
  pub same : x_frame.graph ≡ frame.graph
  pub into : x_frame.into ≡ frame.into
  pub size : length x_frame.vars ≡ length (explicit_graph p graph).types
  pub vars : (v : ℕ) → needs p false frame.ops frame.exit v ≡ true → sets frame.into v ≡ false → read x_frame.vars v ≡ read frame.vars v
  pub leaving : Leaving p frame.graph frame.ops frame.exit
  pub testing : Testing p graph frame.ops frame.exit
  pub under : (v : ℕ) → read_by (under_way (explicit p) x_frame) v ≡ true → (read_by (under_way p frame) v ≡ true) × (read x_frame.vars v ≡ read frame.vars v)
  pub left : (PieceAt p graph frame.ops frame.exit x_frame.ops x_frame.exit × (is_marked (marks_of p) f ≡ false)) ⊎ Tests p graph frame x_frame

abbrev pub Wait : LlProgram → ℕ → List Frame → List Frame → Type 0
Wait p f [] [] = Unit {0}
Wait p f (frame ∷ frames) (x_frame ∷ x_frames) = (graph : LlGraph) × Waits p f graph frame x_frame × Wait p frame.graph frames x_frames
Wait p f frames x_frames = ⊥

-- ---- states

pub record StandsCalling (p : LlProgram) (f : ℕ) (values : List Value) (frames : List Frame) (core : Core) (x_f : ℕ) (x_values : List Value) (x_frames : List Frame) (x_core : Core) : Type 0 where
  pub called : x_f ≡ f
  pub given : x_values ≡ values
  pub beside : Beside core x_core
  pub clear : IsClear x_core
  pub waiting : Wait p f frames x_frames

-- what would catch an exception finds the same
abbrev pub SameHandled : List LlOp → LlExit → Core → Core → Type 0
SameHandled ops e core x_core = (v : ℕ) → among v (handler_reads ops e) ≡ true → read x_core.vars v ≡ read core.vars v

pub record StandsAt (p : LlProgram) (ops : List LlOp) (e : LlExit) (frames : List Frame) (core : Core) (x_ops : List LlOp) (x_exit : LlExit) (x_frames : List Frame) (x_core : Core) (graph : LlGraph) : Type 0 where
  pub of : slice_get p.graphs core.function ≡ Some graph
  pub beside : Beside core x_core
  pub clear : IsClear x_core
  pub size : length x_core.vars ≡ length (explicit_graph p graph).types
  pub vars : (v : ℕ) → needs p false ops e v ≡ true → read x_core.vars v ≡ read core.vars v
  pub leaving : Leaving p core.function ops e
  pub testing : Testing p graph ops e
  pub left : PieceAt p graph ops e x_ops x_exit ⊎ (TestAt p graph ops e x_ops x_exit × SameHandled ops e core x_core)
  pub waiting : Wait p core.function frames x_frames

pub record StandsReturning (p : LlProgram) (value : Value) (frames : List Frame) (core : Core) (x_value : Value) (x_frames : List Frame) (x_core : Core) : Type 0 where
  pub gives : x_value ≡ value
  pub beside : Beside core x_core
  pub clear : IsClear x_core
  pub waiting : Wait p core.function frames x_frames

-- an exception leaves a graph: it stands in the slots, with what tells its class, which it names; and the graph gives a value that
-- nothing reads, and that names no block
pub record StandsThrowing (p : LlProgram) (value : Value) (frames : List Frame) (core : Core) (x_value : Value) (x_frames : List Frame) (x_core : Core) : Type 0 where
  pub beside : Beside core x_core
  pub set : is_unset value ≡ false
  pub slot : x_core.exc_value ≡ value
  pub kind : is_pointer x_core.exc_type ≡ true
  pub known : StaticsAreApart core → (b : ℕ) → x_core.exc_type ≡ Ptr b → Held core.blocks (value ∷ []) b
  pub gives : (b : ℕ) → x_value ≡ Ptr b → ⊥
  pub marked : is_marked (marks_of p) core.function ≡ true
  pub waiting : Wait p core.function frames x_frames

abbrev pub Stands : LlProgram → State → State → Type 0
Stands p (Calling f values frames core) (Calling x_f x_values x_frames x_core) = StandsCalling p f values frames core x_f x_values x_frames x_core
Stands p (At ops e frames core) (At x_ops x_exit x_frames x_core) = (graph : LlGraph) × StandsAt p ops e frames core x_ops x_exit x_frames x_core graph
Stands p (Returning value frames core) (Returning x_value x_frames x_core) = StandsReturning p value frames core x_value x_frames x_core
Stands p (Throwing value frames core) (Returning x_value x_frames x_core) = StandsThrowing p value frames core x_value x_frames x_core
Stands p s x = ⊥
