use Rattle.told_graphs.proofs.Sufficing.{ways_suffice}
use Rattle.told_graphs.proofs.laws.ways_suffice.Goals as goal

pub returns : goal.returns
returns c = ways_suffice
