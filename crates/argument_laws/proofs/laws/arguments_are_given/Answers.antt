use Rattle.argument_laws.proofs.Starting.{arguments_are_given}
use Rattle.argument_laws.proofs.laws.arguments_are_given.Goals as goal

pub returns : goal.returns
returns c = arguments_are_given
