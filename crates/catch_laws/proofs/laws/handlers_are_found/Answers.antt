use Rattle.catch_laws.proofs.Handling.{handlers_are_found}
use Rattle.catch_laws.proofs.laws.handlers_are_found.Goals as goal

pub returns : goal.returns
returns c = handlers_are_found
