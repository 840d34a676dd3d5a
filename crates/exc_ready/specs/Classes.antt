-- A test of a program by which each exception names its class: right behind the operation that makes it stands one that writes a static
-- into the field that tells classes apart, and nothing else is ever written there.
use Rattle.std.specs.Prelude.{◌≡◌, ℕ, ◌==◌, ◌&&◌, ◌||◌, not, Bool, true, false, List, [], ◌∷◌, slice_get, Option, Some, None}
use Rattle.csub_tree.specs.State.{Null}
use Rattle.csub_tree.specs.Layout.{begins_with, shape_at, place, static_block}
use Rattle.csub_tree.specs.Statement.{read}
use Rattle.csub_tree.specs.declared.tree.CStatic.{CStatic}
use Rattle.csub_tree.specs.declared.tree.CConst.TheVariants as constant
use Rattle.csub_tree.specs.declared.tree.COperand.{COperand}
use Rattle.csub_tree.specs.declared.tree.COperand.TheVariants.{Const}
use Rattle.ll_code.specs.State.{State, At}
use Rattle.ll_code.specs.Machine.{shapes_of}
use Rattle.ll_code.specs.Typed.{has_type, field_of}
use Rattle.ll_code.specs.declared.program.LlType.TheVariants as type
use Rattle.ll_code.specs.declared.program.LlOp.{LlOp}
use Rattle.ll_code.specs.declared.program.LlOp.TheVariants as op
use Rattle.ll_code.specs.declared.program.LlBlock.{LlBlock}
use Rattle.ll_code.specs.declared.program.LlGraph.{LlGraph}
use Rattle.ll_code.specs.declared.program.LlProgram.{LlProgram}
use Rattle.exc_laws.specs.Ready.{exceptions_of, is_pointer, raised_next}
use Rattle.exc_ready.specs.Raisable.{root_of}

-- ---- the field that tells classes apart

abbrev pub class_place : LlProgram → ℕ
class_place p = place (shape_at (shapes_of p.structs) (root_of p)) 0

abbrev pub is_exception_struct : LlProgram → ℕ → Bool
is_exception_struct p n = begins_with (shapes_of p.structs) n (root_of p)

-- the field stands there, and points to what tells classes apart
abbrev pub is_class_field : LlProgram → ℕ → ℕ → ℕ → Bool
is_class_field p kind n k = (place (shape_at (shapes_of p.structs) n) k == class_place p) && has_type (type.Ptr kind) (field_of (slice_get p.structs n) k)

-- ---- operations

abbrev pub is_static : COperand → Bool
is_static (Const (constant.Static s g)) = true
is_static other = false

-- the first of these writes a static into that field of the variable
abbrev pub names_class : ℕ → ℕ → List LlOp → Bool
names_class root a (op.SetField n v k x ∷ ops) = (n == root) && (v == a) && (k == 0) && is_static x
names_class root a ops = false

abbrev pub op_names : LlProgram → ℕ → LlOp → List LlOp → Bool
op_names p kind (op.New a m n) ops = not (is_exception_struct p n) || names_class (root_of p) a ops
op_names p kind (op.NewArray a m n x) ops = not (is_exception_struct p n)
op_names p kind (op.SetField n v k x) ops = not (is_class_field p kind n k) || is_static x
op_names p kind other ops = true

abbrev pub ops_name : LlProgram → ℕ → List LlOp → Bool
ops_name p kind [] = true
ops_name p kind (o ∷ ops) = op_names p kind o ops && ops_name p kind ops

abbrev pub blocks_name : LlProgram → ℕ → List LlBlock → Bool
blocks_name p kind [] = true
blocks_name p kind (block ∷ blocks) = ops_name p kind block.ops && blocks_name p kind blocks

abbrev pub graphs_name : LlProgram → ℕ → List LlGraph → Bool
graphs_name p kind [] = true
graphs_name p kind (graph ∷ graphs) = blocks_name p kind graph.blocks && graphs_name p kind graphs

-- ---- statics

abbrev pub static_names : LlProgram → CStatic → Bool
static_names p static = not (is_exception_struct p static.kind) || is_pointer (read (static_block (shapes_of p.structs) static).fields (class_place p))

abbrev pub statics_name : LlProgram → List CStatic → Bool
statics_name p [] = true
statics_name p (static ∷ statics) = static_names p static && statics_name p statics

-- ---- the program

abbrev pub names_classes_by : LlProgram → Option ℕ → Bool
names_classes_by p None = true
names_classes_by p (Some kind) = has_type (type.Ptr kind) (field_of (slice_get p.structs (root_of p)) 0) && graphs_name p kind p.graphs && statics_name p p.statics

abbrev pub names_classes : LlProgram → Bool
names_classes p = names_classes_by p (exceptions_of p).kind

-- ---- states

-- NULL is not raised next
abbrev pub RaisesSome : LlProgram → State → Type 0
RaisesSome p (At ops exit frames core) = (a : ℕ) → raised_next ops exit ≡ Some a → read core.vars a ≡ Null → ⊥
RaisesSome p other = Unit {0}
