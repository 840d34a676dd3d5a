use Rattle.raise_laws.proofs.Helpers.{raising_helpers_follow}
use Rattle.raise_laws.proofs.laws.raising_helpers_follow.Goals as goal

pub returns : goal.returns
returns c = raising_helpers_follow
