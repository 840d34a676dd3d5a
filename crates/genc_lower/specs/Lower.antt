-- The C file of a low-level program. A graph becomes a function of the same name, with the entry last; variables, structs and statics
-- keep their numbers. A block of a graph becomes a block of the same number. Behind them stand, for each block that ends in a test, one
-- block for each way. The inputs of a block are assigned on the links to it.
use Rattle.std.specs.Prelude.{ℕ, zero, suc, ◌+◌, ◌-◌, ◌==◌, ◌&&◌, ◌||◌, not, nat_lt, Bool, true, false, cond, List, [], ◌∷◌, ◌++◌, length, map, drop, slice_get, Option, Some, None, option_map}
use Rattle.csub_tree.specs.declared.tree.CConst.{CConst}
use Rattle.csub_tree.specs.declared.tree.CConst.TheVariants.{Fun}
use Rattle.csub_tree.specs.declared.tree.COperand.{COperand}
use Rattle.csub_tree.specs.declared.tree.COperand.TheVariants.{Var, Const}
use Rattle.csub_tree.specs.declared.tree.CCell.{CCell, fold-CCell}
use Rattle.csub_tree.specs.declared.tree.CCell.TheOpen.{CCell-F}
use Rattle.csub_tree.specs.declared.tree.CCell.TheVariants as cell
use Rattle.csub_tree.specs.declared.tree.CStatic.{CStatic}
use Rattle.csub_tree.specs.declared.tree.CStruct.{CStruct}
use Rattle.csub_tree.specs.declared.tree.CPrototype.{CPrototype}
use Rattle.csub_tree.specs.declared.tree.CFunction.{CFunction}
use Rattle.csub_tree.specs.declared.tree.CFile.{CFile}
use Rattle.csub_tree.specs.declared.tree.CStmt.{CStmt}
use Rattle.csub_tree.specs.declared.tree.CStmt.TheVariants as stmt
use Rattle.csub_tree.specs.declared.tree.CType.{CType}
use Rattle.ll_code.specs.Machine.{c_type, c_result, param_types, block_in}
use Rattle.ll_code.specs.declared.program.LlStruct.{LlStruct}
use Rattle.ll_code.specs.declared.program.LlLink.{LlLink}
use Rattle.ll_code.specs.declared.program.LlOp.{LlOp}
use Rattle.ll_code.specs.declared.program.LlOp.TheVariants as op
use Rattle.ll_code.specs.declared.program.LlExit.{LlExit}
use Rattle.ll_code.specs.declared.program.LlExit.TheVariants as exit
use Rattle.ll_code.specs.declared.program.LlBlock.{LlBlock}
use Rattle.ll_code.specs.declared.program.LlGraph.{LlGraph}
use Rattle.ll_code.specs.declared.program.LlProgram.{LlProgram}
use Rattle.genc_lower.specs.declared.order.Order.{Order}

-- ---- numbers of functions

-- the entry comes last
abbrev pub function_of : Order → ℕ → ℕ
function_of order g = cond (g == order.entry) order.last (cond (nat_lt order.entry g) (g - 1) g)

abbrev pub constant : Order → CConst → CConst
constant order (Fun g) = Fun (function_of order g)
constant order other = other

abbrev pub operand : Order → COperand → COperand
operand order (Const c) = Const (constant order c)
operand order other = other

-- ---- operations

abbrev pub statement : Order → LlOp → CStmt
statement order (op.Set a x) = stmt.Set a (operand order x)
statement order (op.Unary a o x) = stmt.Unary a o (operand order x)
statement order (op.Binary a o x y) = stmt.Binary a o (operand order x) (operand order y)
statement order (op.GetField a n b k) = stmt.GetField a n b k
statement order (op.SetField n b k x) = stmt.SetField n b k (operand order x)
statement order (op.GetItem a n b i) = stmt.GetItem a n b (operand order i)
statement order (op.SetItem n b i x) = stmt.SetItem n b (operand order i) (operand order x)
statement order (op.New a m n) = stmt.New a m n
statement order (op.NewArray a m n x) = stmt.NewArray a m n (operand order x)
statement order (op.Free a) = stmt.Free a
statement order (op.Step x) = stmt.Step (operand order x)
statement order (op.Call into g xs) = stmt.Call into (function_of order g) (map (operand order) xs)
statement order (op.CallFn into result params b xs) = stmt.CallFn into (c_result result) (map c_type params) b (map (operand order) xs)
statement order (op.ExcType a n) = stmt.ExcType a n
statement order (op.ExcValue a n) = stmt.ExcValue a n
statement order (op.ExcSet a b) = stmt.ExcSet a b
statement order op.ExcClear = stmt.ExcClear
statement order (op.Argc a) = stmt.Argc a
statement order (op.ArgLen a x) = stmt.ArgLen a (operand order x)
statement order (op.Arg a x y) = stmt.Arg a (operand order x) (operand order y)
statement order (op.Put x) = stmt.Put (operand order x)
statement order (op.Raise a) = stmt.ExcClear

-- ---- links

-- an input takes another value than its own
abbrev pub moves : ℕ → COperand → Bool
moves v (Var w) = not (v == w)
moves v other = true

-- the variable is this input, which takes another value
abbrev pub is_changed : ℕ → ℕ → COperand → Bool
is_changed w v x = w == v && moves v x

abbrev pub changes : ℕ → List ℕ → List COperand → Bool
changes w (v ∷ vs) (x ∷ xs) = is_changed w v x || changes w vs xs
changes w vs xs = false

abbrev pub reads_changed : List ℕ → List COperand → COperand → Bool
reads_changed vs xs (Var w) = changes w vs xs
reads_changed vs xs other = false

-- the variable is an input that takes another value
unfoldable pub is_new : List ℕ → List COperand → ℕ → Bool
is_new vs xs v = changes v vs xs

-- an input that takes another value takes that of one that does
abbrev pub crosses_in : List ℕ → List COperand → List ℕ → List COperand → Bool
crosses_in all_vs all_xs (v ∷ vs) (x ∷ xs) = (is_new all_vs all_xs v && reads_changed all_vs all_xs x) || crosses_in all_vs all_xs vs xs
crosses_in all_vs all_xs vs xs = false

abbrev pub crosses : List ℕ → List COperand → Bool
crosses vs xs = crosses_in vs xs vs xs

-- each input that takes another value takes it; or a variable of its own does, `above` the input
abbrev pub assigns : Order → ℕ → List ℕ → List COperand → List ℕ → List COperand → List CStmt
assigns order above all_vs all_xs (v ∷ vs) (x ∷ xs) =
    cond (is_new all_vs all_xs v) (stmt.Set (above + v) (operand order x) ∷ assigns order above all_vs all_xs vs xs) (assigns order above all_vs all_xs vs xs)
assigns order above all_vs all_xs vs xs = []

-- each of them takes the value that waits for it
abbrev pub takes : ℕ → List ℕ → List COperand → List ℕ → List COperand → List CStmt
takes above all_vs all_xs (v ∷ vs) (x ∷ xs) = cond (is_new all_vs all_xs v) (stmt.Set v (Var (above + v)) ∷ takes above all_vs all_xs vs xs) (takes above all_vs all_xs vs xs)
takes above all_vs all_xs vs xs = []

-- the inputs take their values as if all at once
abbrev pub moved : Order → ℕ → List ℕ → List COperand → List CStmt
moved order above vs xs = cond (crosses vs xs) (assigns order above vs xs vs xs ++ takes above vs xs vs xs) (assigns order 0 vs xs vs xs)

abbrev pub inputs_of : Option LlBlock → List ℕ
inputs_of None = []
inputs_of (Some block) = block.inputs

abbrev pub inputs_at : LlGraph → ℕ → List ℕ
inputs_at graph n = inputs_of (slice_get graph.blocks n)

abbrev pub link_code : Order → LlGraph → LlLink → List CStmt
link_code order graph link = moved order (length graph.types) (inputs_at graph link.to) link.args ++ stmt.Goto link.to ∷ []

-- ---- blocks

abbrev pub exit_code : Order → LlGraph → ℕ → LlExit → List CStmt
exit_code order graph next (exit.Goto link) = link_code order graph link
exit_code order graph next (exit.If a there elsewhere) = stmt.If a next (next + 1) ∷ []
exit_code order graph next (exit.OnRaise a by without) = link_code order graph without
exit_code order graph next (exit.Return x) = stmt.Return (option_map (operand order) x) ∷ []
exit_code order graph next (exit.Raise a) = stmt.Goto 0 ∷ []
exit_code order graph next (exit.Fail n) = stmt.Fail n ∷ []
exit_code order graph next (exit.Raised a) = stmt.Raised a ∷ []

abbrev pub body : Order → LlGraph → ℕ → LlBlock → List CStmt
body order graph next block = map (statement order) block.ops ++ exit_code order graph next block.exit

-- the first block that no way has taken yet
abbrev pub after : ℕ → LlExit → ℕ
after next (exit.If a there elsewhere) = next + 2
after next other = next

abbrev pub bodies : Order → LlGraph → ℕ → List LlBlock → List (List CStmt)
bodies order graph next [] = []
bodies order graph next (block ∷ blocks) = body order graph next block ∷ bodies order graph (after next block.exit) blocks

abbrev pub ways_of : Order → LlGraph → LlExit → List (List CStmt)
ways_of order graph (exit.If a there elsewhere) = link_code order graph there ∷ link_code order graph elsewhere ∷ []
ways_of order graph other = []

abbrev pub ways : Order → LlGraph → List LlBlock → List (List CStmt)
ways order graph [] = []
ways order graph (block ∷ blocks) = ways_of order graph block.exit ++ ways order graph blocks

abbrev pub blocks_code : Order → LlGraph → List (List CStmt)
blocks_code order graph = bodies order graph (length graph.blocks) graph.blocks ++ ways order graph graph.blocks

-- ---- functions

abbrev pub link_crosses : LlGraph → LlLink → Bool
link_crosses graph link = crosses (inputs_at graph link.to) link.args

abbrev pub exit_crosses : LlGraph → LlExit → Bool
exit_crosses graph (exit.Goto link) = link_crosses graph link
exit_crosses graph (exit.If a there elsewhere) = link_crosses graph there || link_crosses graph elsewhere
exit_crosses graph (exit.OnRaise a by without) = link_crosses graph without
exit_crosses graph other = false

abbrev pub any_crosses : LlGraph → List LlBlock → Bool
any_crosses graph [] = false
any_crosses graph (block ∷ blocks) = exit_crosses graph block.exit || any_crosses graph blocks

-- a variable above each, where values have to wait
abbrev pub waiting_types : LlGraph → List CType
waiting_types graph = cond (any_crosses graph graph.blocks) (map c_type graph.types) []

abbrev pub function_code : Order → LlGraph → CFunction
function_code order graph = record {
  name = graph.name;
  result = c_result graph.result;
  params = param_types graph;
  locals = map c_type (drop (length graph.params) graph.types) ++ waiting_types graph;
  blocks = blocks_code order graph;
}

abbrev pub prototype : LlGraph → CPrototype
prototype graph = record { result = c_result graph.result; params = param_types graph }

-- ---- the file

abbrev pub c_struct : LlStruct → CStruct
c_struct struct = record { base = struct.base; fields = map c_type struct.fields; items = option_map c_type struct.items }

abbrev pub cell_step : Order → CCell-F CCell → CCell
cell_step order (CCell-F.Const c) = cell.Const (constant order c)
cell_step order (CCell-F.Braces cells) = cell.Braces cells

abbrev pub cell_code : Order → CCell → CCell
cell_code order = fold-CCell CCell (cell_step order)

abbrev pub static_code : Order → CStatic → CStatic
static_code order static = record { kind = static.kind; cells = map (cell_code order) static.cells }

-- what a graph becomes, unless it is the entry
abbrev pub unless : {A : Type 0} → (LlGraph → A) → ℕ → ℕ → LlGraph → List A
unless f entry n graph = cond (n == entry) [] (f graph ∷ [])

-- what the graphs but the entry become
abbrev pub others : {A : Type 0} → (LlGraph → A) → ℕ → ℕ → List LlGraph → List A
others f entry n [] = []
others f entry n (graph ∷ graphs) = unless f entry n graph ++ others f entry (n + 1) graphs

abbrev pub only : {A : Type 0} → (LlGraph → A) → Option LlGraph → List A
only f None = []
only f (Some graph) = f graph ∷ []

abbrev pub in_order : {A : Type 0} → (LlGraph → A) → LlProgram → List A
in_order f program = others f program.entry 0 program.graphs ++ only f (slice_get program.graphs program.entry)

abbrev pub order_of : LlProgram → Order
order_of program = record { entry = program.entry; last = length program.graphs - 1 }

abbrev pub lowered : LlProgram → CFile
lowered program = record {
  structs = map c_struct program.structs;
  prototypes = in_order prototype program;
  statics = map (static_code (order_of program)) program.statics;
  functions = in_order (function_code (order_of program)) program;
}
