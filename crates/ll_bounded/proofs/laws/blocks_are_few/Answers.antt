use Rattle.ll_bounded.proofs.Counted.{blocks_are_few}
use Rattle.ll_bounded.proofs.laws.blocks_are_few.Goals as goal

pub returns : goal.returns
returns c = blocks_are_few
