use Rattle.layout_laws.proofs.Exceptions.{exceptions_stand}
use Rattle.layout_laws.proofs.Methods.{methods_stand}
use Rattle.layout_laws.proofs.Vtables.{vtables_stand}
use Rattle.layout_laws.proofs.laws.statics_of_classes_stand.Goals as goal

pub returns-clause-vtables : goal.returns-clause-vtables
returns-clause-vtables c = vtables_stand

pub returns-clause-exceptions : goal.returns-clause-exceptions
returns-clause-exceptions c = exceptions_stand

pub returns-clause-methods : goal.returns-clause-methods
returns-clause-methods c = methods_stand
