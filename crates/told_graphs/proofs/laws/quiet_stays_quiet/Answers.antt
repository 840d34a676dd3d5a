use Rattle.told_graphs.proofs.Closing.{quiet_stays_quiet}
use Rattle.told_graphs.proofs.laws.quiet_stays_quiet.Goals as goal

pub returns : goal.returns
returns c = quiet_stays_quiet
