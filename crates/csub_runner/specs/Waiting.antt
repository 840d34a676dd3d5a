-- A call that waits, with the code's values.
use Rattle.std.specs.Prelude.{ℕ, ◌-◌, List, Option, Some, None, length, slice_get, slice_set}
use Rattle.csub_runner.specs.declared.val.Val.{Val}

pub record Waiting : Type 0 where
  pub function : ℕ
  pub block : ℕ
  pub at : ℕ
  pub vars : List Val
  pub into : Option ℕ

-- the innermost one
abbrev pub raw_last : List Waiting → Option Waiting
raw_last callers = slice_get callers (length callers - 1)

abbrev pub raw_taken : List Val → Option ℕ → Val → List Val
raw_taken vars None value = vars
raw_taken vars (Some a) value = slice_set vars a value
