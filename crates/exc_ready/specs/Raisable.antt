-- A test of a program, beside its types, that lets its exceptions be made explicit.
use Rattle.std.specs.Prelude.{◌≡◌, ℕ, ◌&&◌, not, Bool, true, List, [], ◌∷◌, slice_get, Option, Some, None}
use Rattle.ll_code.specs.Typed.{has_type}
use Rattle.ll_code.specs.declared.program.LlType.{LlType}
use Rattle.ll_code.specs.declared.program.LlType.TheVariants as type
use Rattle.ll_code.specs.declared.program.LlOp.{LlOp}
use Rattle.ll_code.specs.declared.program.LlOp.TheVariants as op
use Rattle.ll_code.specs.declared.program.LlExit.{LlExit}
use Rattle.ll_code.specs.declared.program.LlExit.TheVariants as exit
use Rattle.ll_code.specs.declared.program.LlBlock.{LlBlock}
use Rattle.ll_code.specs.declared.program.LlGraph.{LlGraph}
use Rattle.ll_code.specs.declared.program.LlProgram.{LlProgram}
use Rattle.ll_live.specs.Live.{among, set_by}
use Rattle.ll_points.specs.Agrees.{Slots}
use Rattle.exc_transform.specs.Explicit.{is_marked, kind_of}
use Rattle.exc_transform.specs.Live.{live, handler_reads}
use Rattle.exc_laws.specs.Ready.{marks_of, any_of, exceptions_of, uses_slots}

-- the struct that all exceptions begin with
abbrev pub root_of : LlProgram → ℕ
root_of p = (exceptions_of p).root

-- the structs to which the exception slots of the explicit program point
abbrev pub slots_for : LlProgram → Slots
slots_for p = Some (kind_of (exceptions_of p), root_of p)

-- ---- operations

-- an exception is a pointer to that struct
abbrev pub is_exception : ℕ → List LlType → ℕ → Bool
is_exception root types a = has_type (type.Ptr root) (slice_get types a)

abbrev pub raises_alike : ℕ → List LlType → LlOp → Bool
raises_alike root types (op.Raise a) = is_exception root types a
raises_alike root types other = true

abbrev pub exit_raises_alike : ℕ → List LlType → LlExit → Bool
exit_raises_alike root types (exit.Raise a) = is_exception root types a
exit_raises_alike root types (exit.OnRaise a by without) = is_exception root types a
exit_raises_alike root types other = true

-- what is set is not among these
abbrev pub sets_none_of : Option ℕ → List ℕ → Bool
sets_none_of None vs = true
sets_none_of (Some a) vs = not (among a vs)

-- what catches an exception of an operation does not read what that would have set; and none of them uses the slots
abbrev pub ops_raisable : ℕ → List LlType → List LlOp → LlExit → Bool
ops_raisable root types [] e = true
ops_raisable root types (o ∷ ops) e = raises_alike root types o && not (uses_slots o) && sets_none_of (set_by o) (handler_reads ops e) && ops_raisable root types ops e

-- ---- blocks

abbrev pub all_among : List ℕ → List ℕ → Bool
all_among [] ws = true
all_among (v ∷ vs) ws = among v ws && all_among vs ws

-- it reads its inputs alone, and what it sets itself
abbrev pub reads_inputs : LlProgram → LlBlock → Bool
reads_inputs p block = all_among (live (marks_of p) (any_of p) block.ops block.exit) block.inputs

abbrev pub block_raisable : LlProgram → List LlType → LlBlock → Bool
block_raisable p types block = reads_inputs p block && ops_raisable (root_of p) types block.ops block.exit && exit_raises_alike (root_of p) types block.exit

abbrev pub blocks_raisable : LlProgram → List LlType → List LlBlock → Bool
blocks_raisable p types [] = true
blocks_raisable p types (block ∷ blocks) = block_raisable p types block && blocks_raisable p types blocks

-- ---- graphs

-- the first block takes nothing but parameters
abbrev pub takes_params : List ℕ → Option LlBlock → Bool
takes_params params None = true
takes_params params (Some block) = all_among block.inputs params

abbrev pub graph_raisable : LlProgram → LlGraph → Bool
graph_raisable p graph = takes_params graph.params (slice_get graph.blocks 0) && blocks_raisable p graph.types graph.blocks

abbrev pub graphs_raisable : LlProgram → List LlGraph → Bool
graphs_raisable p [] = true
graphs_raisable p (graph ∷ graphs) = graph_raisable p graph && graphs_raisable p graphs

-- and the first graph raises nothing
abbrev pub is_raisable : LlProgram → Bool
is_raisable p = graphs_raisable p p.graphs && not (is_marked (marks_of p) p.entry)

abbrev pub IsRaisable : LlProgram → Type 0
IsRaisable p = is_raisable p ≡ true
