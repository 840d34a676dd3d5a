use Rattle.class_laws.proofs.Making.{instances_are_made, builtins_are_given}
use Rattle.class_laws.proofs.laws.instances_are_made.Goals as goal

pub returns-clause-new : goal.returns-clause-new
returns-clause-new c = instances_are_made

pub returns-clause-builtin : goal.returns-clause-builtin
returns-clause-builtin c = builtins_are_given
