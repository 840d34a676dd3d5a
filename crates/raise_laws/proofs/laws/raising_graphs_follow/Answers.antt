use Rattle.raise_laws.proofs.Following.{calls_return, calls_raise, calls_lack}
use Rattle.raise_laws.proofs.laws.raising_graphs_follow.Goals as goal

pub returns-clause-returns : goal.returns-clause-returns
returns-clause-returns c = calls_return

pub returns-clause-raises : goal.returns-clause-raises
returns-clause-raises c = calls_raise

pub returns-clause-lacks : goal.returns-clause-lacks
returns-clause-lacks c = calls_lack
