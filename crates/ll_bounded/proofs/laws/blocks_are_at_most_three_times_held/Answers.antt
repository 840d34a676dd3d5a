use Rattle.ll_bounded.proofs.Computed.{at_most_three}
use Rattle.ll_bounded.proofs.laws.blocks_are_at_most_three_times_held.Goals as goal

pub returns : goal.returns
returns c = at_most_three
