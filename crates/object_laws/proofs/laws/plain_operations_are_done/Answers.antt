use Rattle.lower_laws.specs.Copied.{Before}
use Rattle.lower_laws.specs.Done.{Any}
use Rattle.object_laws.proofs.Bridged.{plain_is_done}
use Rattle.object_laws.proofs.laws.plain_operations_are_done.Goals as goal

pub returns-clause-any : goal.returns-clause-any
returns-clause-any c = plain_is_done Any

pub returns-clause-before : goal.returns-clause-before
returns-clause-before c = λ step. plain_is_done (Before step)
