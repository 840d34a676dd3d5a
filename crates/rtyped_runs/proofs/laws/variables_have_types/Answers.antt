use Rattle.rtyped_runs.proofs.Premises.{variables_have_types}
use Rattle.rtyped_runs.proofs.laws.variables_have_types.Goals as goal

pub returns : goal.returns
returns c = variables_have_types
