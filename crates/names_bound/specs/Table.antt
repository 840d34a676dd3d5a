-- Tables of names. The first binding of a name in a scope stands.
use Rattle.std.specs.Prelude.{ℕ, Bool, true, false, if◌then◌else◌, ◌==◌, ◌&&◌, List, [], ◌∷◌, ◌++◌, Option, Some, None}
use Rattle.names_bound.specs.declared.table.Key.{Key}
use Rattle.names_bound.specs.declared.table.Binding.{Binding}

abbrev pub Entries : Type 0
Entries = List (Key × Binding)

-- what a name of a scope is bound to
abbrev pub look : Entries → ℕ → ℕ → Option Binding
look [] scope name = None
look (e ∷ es) scope name = if scope == e.0.scope && name == e.0.name then Some e.1 else look es scope name

abbrev pub fresh : Option Binding → Bool
fresh None = true
fresh (Some b) = false

abbrev pub is_fresh : Entries → ℕ → ℕ → Bool
is_fresh es scope name = fresh (look es scope name)

-- a name is bound where it is not yet
abbrev pub bind : Entries → ℕ → ℕ → Binding → Entries
bind es scope name b = if is_fresh es scope name then es ++ (record { scope = scope; name = name }, b) ∷ [] else es
