use Rattle.std.proofs.Common.{◌≡◌, drop}
use Rattle.ann_layout.specs.Layout as spec
use Rattle.ann_layout.proofs.layout.variable_count.Given as goal

abbrev pub invariant-loop-block : goal.invariant-loop-block
invariant-loop-block l = spec.past_blocks (drop l.block-index l.blocks) l.most ≡ spec.past_blocks l.blocks 0
