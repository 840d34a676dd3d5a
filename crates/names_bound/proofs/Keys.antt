-- A look-up in a table is one by its keys.
use Rattle.std.proofs.Common.{◌≡◌, ℕ, Bool, true, false, cond, List, [], ◌∷◌, Option, Some, None, ◌++◌, refl, ap, ◌∙◌}
use Rattle.indexmap.specs.IndexMap.{insert_entry}
use Rattle.std.specs.Prelude.{◌==◌, ◌&&◌}
use Rattle.std.specs.Map.{lookup}
use Rattle.names_bound.specs.Table.{Entries, look}
use Rattle.names_bound.specs.declared.table.Key.{Key}
use Rattle.names_bound.specs.declared.table.Binding.{Binding}
use Rattle.std.proofs.lemmas.Grind.{common_steps}
use Rattle.std.proofs.Common.{arith}

pub look_is : (eq : Key → Key → Bool) (scope name : ℕ) → ((b : Key) → eq (record { scope = scope; name = name }) b ≡ (scope == b.scope && name == b.name))
    → (es : Entries) → lookup (eq (record { scope = scope; name = name })) es ≡ look es scope name
look_is eq scope name same [] = refl
look_is eq scope name same (e ∷ es) = rw (same e.0, look_is eq scope name same es) refl

-- a new key goes last
pub insert_is : (eq : Key → Key → Bool) (scope name : ℕ) (v : Binding) → ((b : Key) → eq (record { scope = scope; name = name }) b ≡ (scope == b.scope && name == b.name))
    → (es : Entries) → look es scope name ≡ None → insert_entry eq es (record { scope = scope; name = name }) v ≡ es ++ (record { scope = scope; name = name }, v) ∷ []
insert_is eq scope name v same [] none = refl
insert_is eq scope name v same (e ∷ es) none =
    rw (same e.0) (elim (scope == e.0.scope && name == e.0.name) as (λ t. cond t (Some e.1) (look es scope name) ≡ None → cond t ((e.0, v) ∷ es) (e ∷ insert_entry eq es (record { scope = scope; name = name }) v) ≡ e ∷ (es ++ (record { scope = scope; name = name }, v) ∷ [])) [
      | true ↦ λ some. absurd (cc)
      | false ↦ λ rest. ap (λ (t : Entries). e ∷ t) (insert_is eq scope name v same es rest)
    ] none)
