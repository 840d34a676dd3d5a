use Rattle.std.proofs.Common.{◌≡◌, drop}
use Rattle.ann_needs.specs.View.{whole}
use Rattle.ann_states.specs.Marked as spec
use Rattle.ann_states.proofs.marking.mark_blocks.Given as goal

abbrev pub invariant-loop-block : goal.invariant-loop-block
invariant-loop-block l = spec.blocks (whole l.p) l.g (drop l.block-index l.blocks) l.marks ≡ spec.blocks (whole l.p) l.g l.blocks l.fn.marks
