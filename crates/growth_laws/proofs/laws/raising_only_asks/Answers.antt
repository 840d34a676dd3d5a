use Rattle.growth_laws.proofs.Raising.{raising_blocks_grows}
use Rattle.growth_laws.proofs.laws.raising_only_asks.Goals as goal

pub returns : goal.returns
returns c = raising_blocks_grows
