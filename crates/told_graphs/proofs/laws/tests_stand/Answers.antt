use Rattle.told_graphs.proofs.Programs.{tests_stand}
use Rattle.told_graphs.proofs.laws.tests_stand.Goals as goal

pub returns : goal.returns
returns c = tests_stand
