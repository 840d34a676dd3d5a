use Rattle.std.proofs.Common.{rules, ◌≡◌, ℕ, ◌∙◌, ◌++◌, ◌∷◌, [], None, refl, sym, ap, subst}
use Rattle.names_bound.specs.Table.{Entries, look, fresh}
use Rattle.std.specs.Prelude.{if◌then◌else◌}
use Rattle.names_bound.specs.contracts.table.KeyPartialEq.TheImpl.{eq-value}
use Rattle.names_bound.proofs.Keys.{insert_is}
use Rattle.names_bound.proofs.table.Table.bind.Goals as goal

pub returns-in_ok-insert-in-None-clause-table : goal.returns-in_ok-insert-in-None-clause-table
returns-in_ok-insert-in-None-clause-table c =
    let none : look c.args.self.now c.args.scope c.args.name ≡ None = sym c.get.ensures ∙ c.in-None.is in
    let here : look c.self.inside.map.entries c.args.scope c.args.name ≡ None = ap (λ (es : Entries). look es c.args.scope c.args.name) c.self.view_is ∙ none in
    rw none (c.in_ok-insert-in-None.ensures.entries ∙ insert_is (eq-value.it) c.args.scope c.args.name c.args.binding (λ b. refl) c.self.inside.map.entries here
    ∙ ap (λ (es : Entries). es ++ (record { scope = c.args.scope; name = c.args.name }, c.args.binding) ∷ []) c.self.view_is)
