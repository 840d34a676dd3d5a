use Rattle.std.proofs.Common.{length}
use Rattle.ann_needs.proofs.function.+inputs_asks.Given as goal

abbrev pub decreases-inputs_asks : goal.decreases-inputs_asks
decreases-inputs_asks l = length l.inputs.now
