use Rattle.told_graphs.proofs.Sufficing.{landings_suffice}
use Rattle.told_graphs.proofs.laws.landings_suffice.Goals as goal

pub returns : goal.returns
returns c = landings_suffice
