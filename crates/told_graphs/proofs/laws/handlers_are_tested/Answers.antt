use Rattle.told_graphs.proofs.Tests.{handlers_are_tested}
use Rattle.told_graphs.proofs.laws.handlers_are_tested.Goals as goal

pub returns : goal.returns
returns c = handlers_are_tested
