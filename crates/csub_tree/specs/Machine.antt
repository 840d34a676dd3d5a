-- The machine that runs a C file.
use Rattle.std.specs.Prelude.{ℕ, ◌+◌, ◌-◌, pos, List, [], length, map, take, replicate, sum_by, slice_get, Option, Some, None}
use Rattle.csub_tree.specs.State.{Unset, Word, Null, Core, After, Stuck}
use Rattle.csub_tree.specs.Layout.{shapes_of, static_block}
use Rattle.csub_tree.specs.Statement.{read, operand, operands, set, assigned, unary, binary, get_field, set_field, get_item, set_item, new_block, new_array, free, pay, call, call_fn, exc_set, exc_clear, arg_len, arg, put_byte, goes_to, branch, give_back, fail_name_of, fail, raised, type_in}
use Rattle.csub_tree.specs.declared.stuck.StuckReason.TheVariants.{Outside}
use Rattle.csub_tree.specs.declared.tree.CFile.{CFile}
use Rattle.csub_tree.specs.declared.tree.CFunction.{CFunction}
use Rattle.csub_tree.specs.declared.tree.CStmt.{CStmt}
use Rattle.csub_tree.specs.declared.tree.CStmt.TheVariants.{Set, Unary, Binary, GetField, SetField, GetItem, SetItem, New, NewArray, Free, Step, Call, CallFn, ExcType, ExcValue, ExcSet, ExcClear, Argc, ArgLen, Arg, Put, Goto, If, Return, Fail, Raised}

-- what follows by a statement
abbrev pub does : CFile → List (List ℕ) → Core → CStmt → After
does file args core (Set a x) = set core a (operand core.vars x)
does file args core (Unary a op x) = unary core a op (operand core.vars x)
does file args core (Binary a op x y) = binary core a op (operand core.vars x) (operand core.vars y)
does file args core (GetField a n b k) = get_field core (shapes_of file.structs) a n (read core.vars b) k
does file args core (SetField n b k x) = set_field core (shapes_of file.structs) n (read core.vars b) k (operand core.vars x)
does file args core (GetItem a n b i) = get_item core (shapes_of file.structs) a n (read core.vars b) (operand core.vars i)
does file args core (SetItem n b i x) = set_item core (shapes_of file.structs) n (read core.vars b) (operand core.vars i) (operand core.vars x)
does file args core (New a cast n) = new_block core (shapes_of file.structs) a n 0
does file args core (NewArray a cast n x) = new_array core (shapes_of file.structs) a n (operand core.vars x)
does file args core (Free a) = free core (read core.vars a)
does file args core (Step x) = pay core (operand core.vars x)
does file args core (Call into f xs) = call core into f (operands core.vars xs) (slice_get file.functions f)
does file args core (CallFn into result params b xs) = call_fn file.functions core into result params (read core.vars b) (operands core.vars xs)
does file args core (ExcType a cast) = assigned core a core.exc_type
does file args core (ExcValue a cast) = assigned core a core.exc_value
does file args core (ExcSet a b) = exc_set core (read core.vars a) (read core.vars b)
does file args core ExcClear = exc_clear core
does file args core (Argc a) = assigned core a (Word (pos (length args)))
does file args core (ArgLen a x) = arg_len core args a (operand core.vars x)
does file args core (Arg a x y) = arg core args a (operand core.vars x) (operand core.vars y)
does file args core (Put x) = put_byte core (operand core.vars x)
does file args core (Goto block) = goes_to core block
does file args core (If a there elsewhere) = branch core (read core.vars a) there elsewhere
does file args core (Return x) = give_back core x
does file args core (Fail number) = fail core (fail_name_of number)
does file args core (Raised a) = raised core (shapes_of file.structs) (type_in (slice_get file.functions core.function) a) (read core.vars a)

-- the statement at a place
abbrev pub block_in : Option CFunction → ℕ → Option (List CStmt)
block_in None block = None
block_in (Some function) block = slice_get function.blocks block

abbrev pub stmt_in : Option (List CStmt) → ℕ → Option CStmt
stmt_in None at = None
stmt_in (Some stmts) at = slice_get stmts at

abbrev pub stmt_at : List CFunction → Core → Option CStmt
stmt_at functions core = stmt_in (block_in (slice_get functions core.function) core.block) core.at

abbrev pub does_at : CFile → List (List ℕ) → Core → Option CStmt → After
does_at file args core None = Stuck Outside
does_at file args core (Some stmt) = does file args core stmt

-- one step of the machine
abbrev pub step : CFile → List (List ℕ) → Core → After
step file args core = does_at file args core (stmt_at file.functions core)

-- the number of the statement at the machine's place, in the order of the text, from 1
abbrev pub statements_in : CFunction → ℕ
statements_in function = sum_by length function.blocks

abbrev pub blocks_in : Option CFunction → List (List CStmt)
blocks_in None = []
blocks_in (Some function) = function.blocks

abbrev pub statement_number : List CFunction → Core → ℕ
statement_number functions core = sum_by statements_in (take core.function functions) + sum_by length (take core.block (blocks_in (slice_get functions core.function))) + core.at + 1

-- at the start of the last function, with no block and so many steps
abbrev pub locals_of : Option CFunction → ℕ
locals_of None = 0
locals_of (Some function) = length function.locals

abbrev pub start : CFile → ℕ → Core
start file steps = record {
  function = length file.functions - 1;
  block = 0;
  at = 0;
  vars = replicate (locals_of (slice_get file.functions (length file.functions - 1))) Unset;
  callers = [];
  blocks = [];
  statics = map (static_block (shapes_of file.structs)) file.statics;
  exc_type = Null;
  exc_value = Null;
  steps = steps;
}
