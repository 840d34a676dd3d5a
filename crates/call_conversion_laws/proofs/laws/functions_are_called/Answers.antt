use Rattle.call_conversion_laws.proofs.Functions.{calls_are_done, calls_of_classes_are_done}
use Rattle.call_conversion_laws.proofs.laws.functions_are_called.Goals as goal

pub returns-clause-function : goal.returns-clause-function
returns-clause-function c = calls_are_done

pub returns-clause-method : goal.returns-clause-method
returns-clause-method c = calls_of_classes_are_done
