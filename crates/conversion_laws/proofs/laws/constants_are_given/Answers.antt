use Rattle.conversion_laws.proofs.Given.{constants_are_given}
use Rattle.conversion_laws.proofs.laws.constants_are_given.Goals as goal

pub returns : goal.returns
returns c = constants_are_given
