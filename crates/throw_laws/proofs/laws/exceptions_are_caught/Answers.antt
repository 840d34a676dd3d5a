use Rattle.throw_laws.proofs.Catching.{calls_are_made, exceptions_are_caught, raises_are_caught}
use Rattle.throw_laws.proofs.laws.exceptions_are_caught.Goals as goal

pub returns-clause-thrown : goal.returns-clause-thrown
returns-clause-thrown c = exceptions_are_caught

pub returns-clause-raised : goal.returns-clause-raised
returns-clause-raised c = raises_are_caught

pub returns-clause-called : goal.returns-clause-called
returns-clause-called c = calls_are_made
