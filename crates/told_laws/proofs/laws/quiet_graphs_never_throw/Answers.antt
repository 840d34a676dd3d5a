use Rattle.told_laws.proofs.Quiet.{quiet_graphs_never_throw}
use Rattle.told_laws.proofs.laws.quiet_graphs_never_throw.Goals as goal

pub returns : goal.returns
returns c = quiet_graphs_never_throw
