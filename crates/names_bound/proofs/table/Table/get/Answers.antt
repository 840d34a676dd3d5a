use Rattle.std.proofs.Common.{rules, ◌≡◌, ℕ, ◌∙◌, refl, sym, ap}
use Rattle.names_bound.specs.Table.{Entries, look}
use Rattle.names_bound.specs.contracts.table.KeyPartialEq.TheImpl.{eq-value}
use Rattle.names_bound.proofs.Keys.{look_is}
use Rattle.names_bound.proofs.table.Table.get.Goals as goal

pub returns : goal.returns
returns c = c.copied.ensures ∙ c.get.ensures.value ∙ (look_is (eq-value.it) c.args.scope c.args.name (λ b. refl) c.self.inside.map.entries ∙ ap (λ (es : Entries). look es c.args.scope c.args.name) c.self.view_is)
