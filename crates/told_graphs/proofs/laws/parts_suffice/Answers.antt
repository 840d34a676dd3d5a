use Rattle.told_graphs.proofs.Sufficing.{parts_suffice}
use Rattle.told_graphs.proofs.laws.parts_suffice.Goals as goal

pub returns : goal.returns
returns c = parts_suffice
