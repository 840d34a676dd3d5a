use Rattle.told_graphs.proofs.CountingPrograms.{blocks_are_few}
use Rattle.told_graphs.proofs.laws.blocks_are_few.Goals as goal

pub returns : goal.returns
returns c = blocks_are_few
