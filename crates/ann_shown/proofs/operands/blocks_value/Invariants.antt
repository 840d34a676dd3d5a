use Rattle.std.proofs.Common.{◌≡◌, drop}
use Rattle.ann_needs.specs.View.{assignment, whole}
use Rattle.ann_shown.specs.Operands as spec
use Rattle.ann_shown.proofs.operands.blocks_value.Given as goal

abbrev pub invariant-loop-block : goal.invariant-loop-block
invariant-loop-block l = spec.blocks_value (whole l.p) (assignment l.s) l.node l.g (drop l.block-index l.blocks) ≡ spec.blocks_value (whole l.p) (assignment l.s) l.node l.g l.blocks
