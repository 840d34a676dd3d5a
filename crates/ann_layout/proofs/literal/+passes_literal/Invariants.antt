use Rattle.std.proofs.Common.{length}
use Rattle.ann_layout.proofs.literal.+passes_literal.Given as goal

abbrev pub decreases-passes_literal : goal.decreases-passes_literal
decreases-passes_literal l = length l.inputs.now
