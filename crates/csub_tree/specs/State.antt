-- The state of a machine that runs a C file.
use Rattle.std.specs.Prelude.{ℕ, ℤ, Bool, List, Option}
use Rattle.rpy_base.specs.declared.outcome.Outcome.{Outcome}
use Rattle.csub_tree.specs.declared.stuck.StuckReason.{StuckReason}

-- what a variable, a field, an item or an exception slot holds; a block is named by its number, which no other block ever has
pub data Value : Type 0 where
  Unset : Value
  Word : ℤ → Value
  Byte : ℕ → Value
  Flag : Bool → Value
  Fun : ℕ → Value
  Null : Value
  Ptr : ℕ → Value
  Static : ℕ → Value

-- a block of a struct: its fields, with those of an inline base first, and its items
pub record Block : Type 0 where
  pub kind : ℕ
  pub fields : List Value
  pub items : List Value

-- a call that waits for one that it made, and the variable that takes the result, if one does
pub record Caller : Type 0 where
  pub function : ℕ
  pub block : ℕ
  pub at : ℕ
  pub vars : List Value
  pub into : Option ℕ

-- the function that runs, its label and place there, and its variables; who waits, the innermost last; the blocks by number, none
-- where one is gone; the statics; the two exception slots; the steps left
pub record Core : Type 0 where
  pub function : ℕ
  pub block : ℕ
  pub at : ℕ
  pub vars : List Value
  pub callers : List Caller
  pub blocks : List (Option Block)
  pub statics : List Block
  pub exc_type : Value
  pub exc_value : Value
  pub steps : ℕ

-- what a watcher is told: a block's number, struct and count of cells, or the number of one that is gone
pub data Event : Type 0 where
  Made : (number kind cells : ℕ) → Event
  Freed : (number : ℕ) → Event

-- what one statement leads to: the state after it, where it also put a byte, or made or freed a block, with that; the end of the run;
-- or none of these, and why
pub data After : Type 0 where
  Onward : (core : Core) → After
  Puts : (byte : ℕ) → (core : Core) → After
  Told : (event : Event) → (core : Core) → After
  Over : (outcome : Outcome) → (core : Core) → After
  Stuck : (reason : StuckReason) → After
