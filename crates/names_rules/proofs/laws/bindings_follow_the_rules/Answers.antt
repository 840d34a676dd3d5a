use Rattle.names_rules.proofs.Bindings.{bindings_are}
use Rattle.names_rules.proofs.ClassBindings.{class_bindings_are}
use Rattle.names_rules.proofs.laws.bindings_follow_the_rules.Goals as goal

pub returns-clause-modules : goal.returns-clause-modules
returns-clause-modules c = bindings_are

pub returns-clause-classes : goal.returns-clause-classes
returns-clause-classes c = class_bindings_are
