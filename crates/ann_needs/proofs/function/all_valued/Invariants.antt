use Rattle.std.proofs.Common.{◌≡◌, ◌++◌, drop}
use Rattle.ann_needs.specs.View as spec
use Rattle.ann_needs.proofs.function.all_valued.Given as goal

abbrev pub invariant-loop-block : goal.invariant-loop-block
invariant-loop-block l = l.valued ++ spec.all_valued (drop l.block-index l.blocks) ≡ spec.all_valued l.blocks
