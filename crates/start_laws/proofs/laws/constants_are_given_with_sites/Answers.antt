use Rattle.start_laws.proofs.Given.{constants_are_given}
use Rattle.start_laws.proofs.laws.constants_are_given_with_sites.Goals as goal

pub returns : goal.returns
returns c = constants_are_given
