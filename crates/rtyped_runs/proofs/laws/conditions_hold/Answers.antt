use Rattle.rtyped_runs.proofs.Conditions.{conditions_hold}
use Rattle.rtyped_runs.proofs.laws.conditions_hold.Goals as goal

pub returns : goal.returns
returns c = conditions_hold
