-- Programs with explicit exceptions.
use Rattle.std.specs.Prelude.{◌≡◌, ℕ, ◌==◌, ◌&&◌, Bool, true, false, cond, List, [], ◌∷◌, ◌++◌, map, slice_get, Option, Some, None, pos}
use Rattle.csub_tree.specs.declared.tree.CBinary.TheVariants.{Peq}
use Rattle.csub_tree.specs.declared.tree.CConst.TheVariants as constant
use Rattle.csub_tree.specs.declared.tree.COperand.{COperand}
use Rattle.csub_tree.specs.declared.tree.COperand.TheVariants.{Var, Const}
use Rattle.ll_code.specs.declared.program.LlStage.TheVariants.{Explicit}
use Rattle.ll_code.specs.declared.program.LlType.{LlType}
use Rattle.ll_code.specs.declared.program.LlType.TheVariants as type
use Rattle.ll_code.specs.declared.program.LlOp.{LlOp}
use Rattle.ll_code.specs.declared.program.LlOp.TheVariants as op
use Rattle.ll_code.specs.declared.program.LlExit.{LlExit}
use Rattle.ll_code.specs.declared.program.LlExit.TheVariants as exit
use Rattle.ll_code.specs.declared.program.LlBlock.{LlBlock}
use Rattle.ll_code.specs.declared.program.LlGraph.{LlGraph}
use Rattle.ll_code.specs.declared.program.LlProgram.{LlProgram}
use Rattle.exc_transform.specs.declared.family.Family.{Family}

-- ---- programs in which nothing raises an exception and nothing catches one

abbrev pub is_calm : LlOp → Bool
is_calm (op.Raise a) = false
is_calm other = true

abbrev pub leaves_calmly : LlExit → Bool
leaves_calmly (exit.OnRaise a by without) = false
leaves_calmly (exit.Raise a) = false
leaves_calmly other = true

abbrev pub are_calm : List LlOp → Bool
are_calm [] = true
are_calm (o ∷ ops) = is_calm o && are_calm ops

abbrev pub block_calm : LlBlock → Bool
block_calm block = are_calm block.ops && leaves_calmly block.exit

abbrev pub blocks_calm : List LlBlock → Bool
blocks_calm [] = true
blocks_calm (block ∷ blocks) = block_calm block && blocks_calm blocks

abbrev pub graphs_calm : List LlGraph → Bool
graphs_calm [] = true
graphs_calm (graph ∷ graphs) = blocks_calm graph.blocks && graphs_calm graphs

abbrev pub IsWithoutExceptions : LlProgram → Type 0
IsWithoutExceptions program = graphs_calm program.graphs ≡ true

-- ---- what is kept

-- the same program at the next stage
abbrev pub restaged : LlProgram → LlProgram
restaged program = record program { stage = Explicit }

-- what a caller sees of a graph
abbrev pub head_of : LlGraph → List ℕ × List ℕ × LlType
head_of graph = (graph.name, graph.params, graph.result)

-- all but the graphs, of which the names are kept, and what they take and give, in order
pub record Keeps (program made : LlProgram) : Type 0 where
  pub stage : made.stage ≡ Explicit
  pub structs : made.structs ≡ program.structs
  pub statics : made.statics ≡ program.statics
  pub entry : made.entry ≡ program.entry
  pub heads : map head_of made.graphs ≡ map head_of program.graphs

-- ---- copies

-- the operation, where it calls nothing
abbrev pub plain : LlOp → LlOp
plain (op.Call into f xs) = op.ExcClear
plain (op.CallFn into result params b xs) = op.ExcClear
plain other = other

-- ---- which operations are tested

abbrev pub marked : Option Bool → Bool
marked None = false
marked (Some b) = b

abbrev pub is_marked : List Bool → ℕ → Bool
is_marked marks n = marked (slice_get marks n)

-- a call of a graph that is marked, or of a function value where any is
abbrev pub is_tested : List Bool → Bool → LlOp → Bool
is_tested marks any (op.Call into f xs) = is_marked marks f
is_tested marks any (op.CallFn into result params b xs) = any
is_tested marks any other = false

-- ---- the exception slots

abbrev pub pointed : Option LlType → Option ℕ
pointed (Some (type.Ptr n)) = Some n
pointed other = None

-- the struct that a variable leads to
abbrev pub led_to : List LlType → ℕ → Option ℕ
led_to types v = pointed (slice_get types v)

abbrev pub or_else : ℕ → Option ℕ → ℕ
or_else n None = n
or_else n (Some m) = m

-- the struct that the first slot leads to
abbrev pub kind_of : Family → ℕ
kind_of family = or_else family.root family.kind

-- a value of the type
abbrev pub default_of : LlType → Option COperand
default_of type.Signed = Some (Const (constant.Word (pos 0)))
default_of type.Char = Some (Const (constant.Char 0))
default_of type.Bool = Some (Const (constant.Bool false))
default_of type.Void = None
default_of type.Fn = Some (Const constant.Null)
default_of (type.Ptr n) = Some (Const constant.Null)

-- the exception v stands in the slots, with what tells its class
abbrev pub raising_by : ℕ → Option ℕ → ℕ → ℕ → List LlOp
raising_by root None kind v = op.ExcSet v v ∷ []
raising_by root (Some n) kind v = op.GetField kind root v 0 ∷ op.ExcSet kind v ∷ []

abbrev pub raising : Family → ℕ → ℕ → List LlOp
raising family kind v = raising_by family.root family.kind kind v

-- whether none stands there
abbrev pub testing : Family → ℕ → ℕ → List LlOp
testing family kind test = op.ExcType kind (kind_of family) ∷ op.Binary test Peq (Var kind) (Const constant.Null) ∷ []

-- the variable takes it, and the slots are cleared
abbrev pub taking : Family → List LlType → ℕ → List LlOp
taking family types a = op.ExcValue a (or_else family.root (led_to types a)) ∷ op.ExcClear ∷ []

abbrev pub same_led : Option ℕ → Option ℕ → Bool
same_led None None = true
same_led (Some m) (Some n) = m == n
same_led x y = false

-- the variable a takes the exception v
abbrev pub giving : Family → List LlType → ℕ → ℕ → ℕ → List LlOp
giving family types kind a v = cond (same_led (led_to types a) (led_to types v)) (op.Set a (Var v) ∷ []) (raising family kind v ++ taking family types a)

-- ---- how pieces of blocks end

-- where nothing raises before the exit
abbrev pub left_ops : Family → ℕ → LlExit → List LlOp
left_ops family kind (exit.Raise v) = raising family kind v
left_ops family kind other = []

abbrev pub left_exit : LlType → LlExit → LlExit
left_exit result (exit.OnRaise a by without) = exit.Goto without
left_exit result (exit.Raise v) = exit.Return (default_of result)
left_exit result other = other

-- by an exception of the operation before the rest: it is caught where the rest is empty and the exit has a link for it
abbrev pub way_ops : Family → List LlType → List LlOp → LlExit → List LlOp
way_ops family types [] (exit.OnRaise a (Some by) without) = taking family types a
way_ops family types rest other = []

abbrev pub way_exit : LlType → List LlOp → LlExit → LlExit
way_exit result [] (exit.OnRaise a (Some by) without) = exit.Goto by
way_exit result rest other = exit.Return (default_of result)

-- where v is raised there
abbrev pub raised_ops : Family → List LlType → ℕ → ℕ → List LlOp → LlExit → List LlOp
raised_ops family types kind v [] (exit.OnRaise a (Some by) without) = giving family types kind a v
raised_ops family types kind v rest other = raising family kind v
