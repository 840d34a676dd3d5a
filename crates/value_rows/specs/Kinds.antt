-- Kinds of operands and results, where a row is said of some alone.
use Rattle.std.specs.Prelude.{◌≡◌, ◌⊎◌, ℕ, Bool, true, false}
use Rattle.flow_graph.specs.declared.graph.Op.{Op}
use Rattle.rtyper_layout.specs.declared.kind.Kind.{Kind}
use Rattle.rtyper_layout.specs.declared.kind.Kind.TheVariants as kind
use Rattle.typed_rows.specs.Programs.{Typed}
use Rattle.typed_rows.specs.Rows.{FirstIs, kind_at}

abbrev pub is_word : Kind → Bool
is_word kind.Word = true
is_word k = false

-- `None` alone
abbrev pub is_none : Kind → Bool
is_none kind.Nothing = true
is_none k = false

-- what stands at the result is of such a kind
abbrev pub ResultIs : (Kind → Bool) → Typed → ℕ → Op → Type 0
ResultIs of t n o = of (kind_at t n o.result) ≡ true

-- neither an instance nor a function, which may be missing
abbrev pub is_unmade : Kind → Bool
is_unmade kind.Instance = false
is_unmade kind.MaybeInstance = false
is_unmade kind.Function = false
is_unmade kind.MaybeFunction = false
is_unmade k = true

-- an instance or a function that counts as false is `None`, and nothing else stands at the result then
abbrev pub FalseIsNone : Typed → ℕ → Op → Type 0
FalseIsNone t n o = ResultIs is_none t n o ⊎ FirstIs is_unmade t n o
