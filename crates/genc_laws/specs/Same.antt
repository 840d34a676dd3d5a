-- When the state of a C file's machine has what a low-level program's machine has: the same values, with the numbers of functions
-- for those of graphs.
use Rattle.std.specs.Prelude.{Bool, true, false, ◌≡◌, ◌+◌, ◌<◌, ◌≤◌, ℕ, List, length, map, option_map, Result, Ok, Err}
use Rattle.csub_tree.specs.State.{Value, Fun, Block, Core, After, Onward, Puts, Told, Over, Stuck}
use Rattle.csub_tree.specs.Operation.{Answer}
use Rattle.csub_tree.specs.Statement.{read}
use Rattle.csub_tree.specs.declared.stuck.StuckReason.{StuckReason}
use Rattle.ll_code.specs.declared.program.LlOp.{LlOp}
use Rattle.ll_code.specs.declared.program.LlOp.TheVariants as op
use Rattle.genc_lower.specs.Lower.{function_of}
use Rattle.genc_lower.specs.declared.order.Order.{Order}

-- ---- values and blocks

-- a graph as a value is its function
abbrev pub renamed : Order → Value → Value
renamed order (Fun g) = Fun (function_of order g)
renamed order other = other

abbrev pub answer_renamed : Order → Answer → Answer
answer_renamed order (Ok value) = Ok (renamed order value)
answer_renamed order (Err reason) = Err reason

abbrev pub block_renamed : Order → Block → Block
block_renamed order block = record { kind = block.kind; fields = map (renamed order) block.fields; items = map (renamed order) block.items }

abbrev pub found_renamed : Order → Result Block StuckReason → Result Block StuckReason
found_renamed order (Ok block) = Ok (block_renamed order block)
found_renamed order (Err reason) = Err reason

-- ---- variables and memory

-- the variables of a graph are the first `own` of `all` that the function has
pub record SameVars (order : Order) (own all : ℕ) (vars c_vars : List Value) : Type 0 where
  pub size : length vars ≡ own
  pub c_size : length c_vars ≡ all
  pub room : own ≤ all
  pub at : (a : ℕ) → a < own → read c_vars a ≡ renamed order (read vars a)

-- the same blocks, statics and exception slots, and as many steps left
pub record SameMemory (order : Order) (core c_core : Core) : Type 0 where
  pub blocks : c_core.blocks ≡ map (option_map (block_renamed order)) core.blocks
  pub statics : c_core.statics ≡ map (block_renamed order) core.statics
  pub exc_type : c_core.exc_type ≡ renamed order core.exc_type
  pub exc_value : c_core.exc_value ≡ renamed order core.exc_value
  pub steps : c_core.steps ≡ core.steps

-- ---- operations

-- the operation stays in its block
abbrev pub stays : LlOp → Bool
stays (op.Call into f xs) = false
stays (op.CallFn into result params b xs) = false
stays (op.Raise a) = false
stays other = true

-- a core where an operation was done on both sides: each is at the next place of what ran before
pub record Done (order : Order) (own all : ℕ) (old c_old core c_core : Core) : Type 0 where
  pub graph : core.function ≡ old.function
  pub function : c_core.function ≡ c_old.function
  pub block : c_core.block ≡ c_old.block
  pub at : c_core.at ≡ c_old.at + 1
  pub callers : c_core.callers ≡ c_old.callers
  pub vars : SameVars order own all core.vars c_core.vars
  pub memory : SameMemory order core c_core

-- the same follows on both sides
abbrev pub SameAfter : Order → ℕ → ℕ → Core → Core → After → After → Type 0
SameAfter order own all old c_old (Onward core) (Onward c_core) = Done order own all old c_old core c_core
SameAfter order own all old c_old (Puts byte core) (Puts c_byte c_core) = (c_byte ≡ byte) × Done order own all old c_old core c_core
SameAfter order own all old c_old (Told event core) (Told c_event c_core) = (c_event ≡ event) × Done order own all old c_old core c_core
SameAfter order own all old c_old (Over outcome core) (Over c_outcome c_core) = (c_outcome ≡ outcome) × (c_core.steps ≡ core.steps)
SameAfter order own all old c_old (Stuck reason) (Stuck c_reason) = c_reason ≡ reason
SameAfter order own all old c_old after c_after = ⊥
