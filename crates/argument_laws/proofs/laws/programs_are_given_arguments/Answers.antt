use Rattle.argument_laws.proofs.Programs.{programs_are_given_arguments, programs_have_arguments}
use Rattle.argument_laws.proofs.laws.programs_are_given_arguments.Goals as goal

pub returns-clause-have : goal.returns-clause-have
returns-clause-have c = programs_have_arguments

pub returns-clause-given : goal.returns-clause-given
returns-clause-given c = programs_are_given_arguments
