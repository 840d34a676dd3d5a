-- When two endings of runs are the same.
use Rattle.std.specs.Prelude.{◌≡◌, ℕ, List, codes}
use Rattle.rpy_base.specs.declared.outcome.Outcome.{Outcome}
use Rattle.rpy_base.specs.declared.outcome.FailName.{FailName}
use Rattle.rpy_base.specs.declared.outcome.FailName.TheVariants.{Index, ZeroDivision, Value, Attribute, NegativeSlice}

-- an ending with all that was printed before it
abbrev pub Printed : Type 0
Printed = Outcome × List ℕ

-- the same kind, the same word, class or failure, and the same output
abbrev pub Same : Printed → Printed → Type 0
Same a b = (a.0 ≡ b.0) × (a.1 ≡ b.1)

-- the name of a failure, as it is shown
abbrev pub fail_name : FailName → List ℕ
fail_name Index = codes "IndexError"
fail_name ZeroDivision = codes "ZeroDivisionError"
fail_name Value = codes "ValueError"
fail_name Attribute = codes "AttributeError"
fail_name NegativeSlice = codes "NegativeSlice"
