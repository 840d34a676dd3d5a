-- The machine that runs a low-level program.
use Rattle.std.specs.Prelude.{ℕ, ◌+◌, ◌-◌, pos, List, [], ◌∷◌, ◌++◌, length, map, replicate, slice_get, slice_set, Option, Some, None, option_map, Bool, cond, ◌&&◌, ◌||◌}
use Rattle.csub_tree.specs.State.{Value, Unset, Word, Null, Core, After, Onward, Puts as PutsByte, Told, Over, Stuck}
use Rattle.csub_tree.specs.Layout.{Shape, shape_over, base_of, static_block}
use Rattle.csub_tree.specs.Operation.{is_unset, flag_of}
use Rattle.csub_tree.specs.Statement.{read, operand, operands, any_unset, set, assigned, unary, binary, get_field, set_field, get_item, set_item, new_block, new_array, free, pay, exc_set, exc_clear, arg_len, arg, put_byte, taken_by, ended, fail, fail_name_of, raised, fun_of, same_result, same_types}
use Rattle.csub_tree.specs.declared.stuck.StuckReason.TheVariants.{Outside, Unset as IsUnset, Signature}
use Rattle.csub_tree.specs.declared.tree.CType.{CType}
use Rattle.csub_tree.specs.declared.tree.CType.TheVariants as c
use Rattle.csub_tree.specs.declared.tree.COperand.{COperand}
use Rattle.ll_code.specs.declared.program.LlType.{LlType}
use Rattle.ll_code.specs.declared.program.LlType.TheVariants as type
use Rattle.ll_code.specs.declared.program.LlStruct.{LlStruct}
use Rattle.ll_code.specs.declared.program.LlLink.{LlLink}
use Rattle.ll_code.specs.declared.program.LlOp.{LlOp}
use Rattle.ll_code.specs.declared.program.LlOp.TheVariants as op
use Rattle.ll_code.specs.declared.program.LlExit.{LlExit}
use Rattle.ll_code.specs.declared.program.LlExit.TheVariants as exit
use Rattle.ll_code.specs.declared.program.LlBlock.{LlBlock}
use Rattle.ll_code.specs.declared.program.LlGraph.{LlGraph}
use Rattle.ll_code.specs.declared.program.LlProgram.{LlProgram}
use Rattle.ll_code.specs.State.{Frame, State, Calling, At, Returning, Throwing, Next, Goes, Puts, Tells, Ends, Sticks}

-- ---- types and structs

-- the type of a C file; what is never there may have any
abbrev pub c_type : LlType → CType
c_type type.Signed = c.Signed
c_type type.Char = c.Char
c_type type.Bool = c.Bool
c_type type.Void = c.Signed
c_type type.Fn = c.Fn
c_type (type.Ptr n) = c.Ptr n

-- what a function gives
abbrev pub c_result : LlType → Option CType
c_result type.Void = None
c_result t = Some (c_type t)

abbrev pub next_shape : List Shape → LlStruct → Shape
next_shape shapes struct = shape_over (length shapes) (length struct.fields) (base_of shapes struct.base)

unfoldable pub shapes_from : List Shape → List LlStruct → List Shape
shapes_from shapes [] = shapes
shapes_from shapes (struct ∷ structs) = shapes_from (shapes ++ next_shape shapes struct ∷ []) structs

abbrev pub shapes_of : List LlStruct → List Shape
shapes_of structs = shapes_from [] structs

-- ---- operations

-- what follows by an operation that stays in its block
abbrev pub does : LlProgram → List (List ℕ) → Core → LlOp → After
does program args core (op.Set a x) = set core a (operand core.vars x)
does program args core (op.Unary a o x) = unary core a o (operand core.vars x)
does program args core (op.Binary a o x y) = binary core a o (operand core.vars x) (operand core.vars y)
does program args core (op.GetField a n b k) = get_field core (shapes_of program.structs) a n (read core.vars b) k
does program args core (op.SetField n b k x) = set_field core (shapes_of program.structs) n (read core.vars b) k (operand core.vars x)
does program args core (op.GetItem a n b i) = get_item core (shapes_of program.structs) a n (read core.vars b) (operand core.vars i)
does program args core (op.SetItem n b i x) = set_item core (shapes_of program.structs) n (read core.vars b) (operand core.vars i) (operand core.vars x)
does program args core (op.New a cast n) = new_block core (shapes_of program.structs) a n 0
does program args core (op.NewArray a cast n x) = new_array core (shapes_of program.structs) a n (operand core.vars x)
does program args core (op.Free a) = free core (read core.vars a)
does program args core (op.Step x) = pay core (operand core.vars x)
does program args core (op.ExcType a cast) = assigned core a core.exc_type
does program args core (op.ExcValue a cast) = assigned core a core.exc_value
does program args core (op.ExcSet a b) = exc_set core (read core.vars a) (read core.vars b)
does program args core op.ExcClear = exc_clear core
does program args core (op.Argc a) = assigned core a (Word (pos (length args)))
does program args core (op.ArgLen a x) = arg_len core args a (operand core.vars x)
does program args core (op.Arg a x y) = arg core args a (operand core.vars x) (operand core.vars y)
does program args core (op.Put x) = put_byte core (operand core.vars x)
does program args core other = Stuck Outside

-- the state that the core of such an operation leads to
abbrev pub goes_on : (Core → State) → After → Next
goes_on state (Onward core) = Goes (state core)
goes_on state (PutsByte byte core) = Puts byte (state core)
goes_on state (Told event core) = Tells event (state core)
goes_on state (Over outcome core) = Ends outcome core
goes_on state (Stuck reason) = Sticks reason

-- ---- links

abbrev pub set_all : List Value → List ℕ → List Value → List Value
set_all vars (v ∷ vs) (x ∷ xs) = set_all (slice_set vars v x) vs xs
set_all vars vs xs = vars

abbrev pub block_in : Option LlGraph → ℕ → Option LlBlock
block_in None n = None
block_in (Some graph) n = slice_get graph.blocks n

abbrev pub begins : List Frame → Core → ℕ → List Value → Option LlBlock → Next
begins frames core to values None = Sticks Outside
begins frames core to values (Some block) = Goes (At block.ops block.exit frames (record core { block = to; at = 0; vars = set_all core.vars block.inputs values }))

-- the inputs of the block take their values all at once
abbrev pub jump : LlProgram → List Frame → Core → LlLink → Next
jump program frames core link = cond (any_unset (operands core.vars link.args)) (Sticks IsUnset)
    (begins frames core link.to (operands core.vars link.args) (block_in (slice_get program.graphs core.function) link.to))

abbrev pub branch : LlProgram → List Frame → Core → LlLink → LlLink → Option Bool → Next
branch program frames core there elsewhere None = Sticks IsUnset
branch program frames core there elsewhere (Some b) = cond b (jump program frames core there) (jump program frames core elsewhere)

-- ---- exceptions

-- an exception in a block: it is caught where nothing is left to do but an exit by exceptions that has a link for it
abbrev pub caught_by : LlProgram → Value → List Frame → Core → LlExit → Next
caught_by program value frames core (exit.OnRaise a (Some link) without) = jump program frames (record core { vars = slice_set core.vars a value }) link
caught_by program value frames core other = Goes (Throwing value frames core)

abbrev pub caught : LlProgram → Value → List LlOp → LlExit → List Frame → Core → Next
caught program value [] exit frames core = caught_by program value frames core exit
caught program value (o ∷ ops) exit frames core = Goes (Throwing value frames core)

-- ---- calls

-- the call waits
abbrev pub waiting : Core → Option ℕ → List LlOp → LlExit → Frame
waiting core into ops exit = record { graph = core.function; block = core.block; at = core.at + 1; vars = core.vars; into = into; ops = ops; exit = exit }

-- the call goes on
abbrev pub resumed : Frame → Core → Core
resumed frame core = record core { function = frame.graph; block = frame.block; at = frame.at; vars = frame.vars }

abbrev pub called : ℕ → List Value → List Frame → Core → Next
called graph values frames core = cond (any_unset values) (Sticks IsUnset) (Goes (Calling graph values frames core))

abbrev pub type_or_word : Option LlType → CType
type_or_word None = c.Signed
type_or_word (Some t) = c_type t

abbrev pub param_types : LlGraph → List CType
param_types graph = map (λ v. type_or_word (slice_get graph.types v)) graph.params

-- a function value is that of a graph with this signature
abbrev pub called_as : Option CType → List CType → ℕ → List Value → List Frame → Core → Option LlGraph → Next
called_as result params f values frames core None = Sticks Signature
called_as result params f values frames core (Some graph) =
    cond (same_result (c_result graph.result) result && same_types (param_types graph) params) (Goes (Calling f values frames core)) (Sticks Signature)

abbrev pub called_value : LlProgram → Option CType → List CType → Option ℕ → List Value → List Frame → Core → Next
called_value program result params None values frames core = Sticks Signature
called_value program result params (Some f) values frames core = called_as result params f values frames core (slice_get program.graphs f)

abbrev pub enters : ℕ → List Value → List Frame → Core → LlGraph → Option LlBlock → Next
enters f values frames core graph None = Sticks Outside
enters f values frames core graph (Some block) =
    Goes (At block.ops block.exit frames (record core { function = f; block = 0; at = 0; vars = values ++ replicate (length graph.types - length graph.params) Unset }))

abbrev pub entered : ℕ → List Value → List Frame → Core → Option LlGraph → Next
entered f values frames core None = Sticks Outside
entered f values frames core (Some graph) = enters f values frames core graph (slice_get graph.blocks 0)

abbrev pub returned : Value → List Frame → Core → Next
returned value [] core = goes_on (Returning value []) (ended core value)
returned value (frame ∷ frames) core = Goes (At frame.ops frame.exit frames (record (resumed frame core) { vars = taken_by frame.vars frame.into value }))

-- out of the first graph nothing catches an exception
abbrev pub thrown : LlProgram → Value → List Frame → Core → Next
thrown program value [] core = Sticks Outside
thrown program value (frame ∷ frames) core = caught program value frame.ops frame.exit frames (resumed frame core)

-- ---- steps

-- a value that is set
abbrev pub given : Value → (Value → Next) → Next
given value go = cond (is_unset value) (Sticks IsUnset) (go value)

abbrev pub operates : LlProgram → List (List ℕ) → LlOp → List LlOp → LlExit → List Frame → Core → Next
operates program args (op.Call into f xs) ops exit frames core = called f (operands core.vars xs) (waiting core into ops exit ∷ frames) core
operates program args (op.CallFn into result params b xs) ops exit frames core = cond (is_unset (read core.vars b) || any_unset (operands core.vars xs)) (Sticks IsUnset)
    (called_value program (c_result result) (map c_type params) (fun_of (read core.vars b)) (operands core.vars xs) (waiting core into ops exit ∷ frames) core)
operates program args (op.Raise a) ops exit frames core = given (read core.vars a) (λ value. caught program value ops exit frames core)
operates program args other ops exit frames core = goes_on (At ops exit frames) (does program args core other)

abbrev pub gives_back : Option COperand → List Frame → Core → Next
gives_back None frames core = Goes (Returning Unset frames core)
gives_back (Some x) frames core = given (operand core.vars x) (λ value. Goes (Returning value frames core))

abbrev pub type_in : Option LlGraph → ℕ → Option CType
type_in None a = None
type_in (Some graph) a = option_map c_type (slice_get graph.types a)

abbrev pub leaves : LlProgram → LlExit → List Frame → Core → Next
leaves program (exit.Goto link) frames core = jump program frames core link
leaves program (exit.If a there elsewhere) frames core = branch program frames core there elsewhere (flag_of (read core.vars a))
leaves program (exit.OnRaise a by without) frames core = jump program frames core without
leaves program (exit.Return x) frames core = gives_back x frames core
leaves program (exit.Raise a) frames core = given (read core.vars a) (λ value. Goes (Throwing value frames core))
leaves program (exit.Fail number) frames core = goes_on (At [] (exit.Fail number) frames) (fail core (fail_name_of number))
leaves program (exit.Raised a) frames core =
    goes_on (At [] (exit.Raised a) frames) (raised core (shapes_of program.structs) (type_in (slice_get program.graphs core.function) a) (read core.vars a))

-- one step of the machine
abbrev pub step : LlProgram → List (List ℕ) → State → Next
step program args (Calling f values frames core) = entered f values frames core (slice_get program.graphs f)
step program args (At [] exit frames core) = leaves program exit frames core
step program args (At (o ∷ ops) exit frames core) = operates program args o ops exit frames core
step program args (Returning value frames core) = returned value frames core
step program args (Throwing value frames core) = thrown program value frames core

-- the entry is called, with no block and so many steps
abbrev pub start : LlProgram → ℕ → State
start program steps = Calling program.entry [] [] (record {
  function = program.entry;
  block = 0;
  at = 0;
  vars = [];
  callers = [];
  blocks = [];
  statics = map (static_block (shapes_of program.structs)) program.statics;
  exc_type = Null;
  exc_value = Null;
  steps = steps;
})
