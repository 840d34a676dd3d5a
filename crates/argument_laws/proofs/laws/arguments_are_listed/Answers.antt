use Rattle.argument_laws.proofs.Giving.{arguments_are_listed}
use Rattle.argument_laws.proofs.laws.arguments_are_listed.Goals as goal

pub returns : goal.returns
returns c = arguments_are_listed
