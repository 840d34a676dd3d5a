use Rattle.start_laws.proofs.Given.{constants_of_programs_are_given, programs_know_sites}
use Rattle.start_laws.proofs.laws.constants_of_programs_are_given.Goals as goal

pub returns-clause-know : goal.returns-clause-know
returns-clause-know c = programs_know_sites

pub returns-clause-given : goal.returns-clause-given
returns-clause-given c = constants_of_programs_are_given
