use Rattle.std.proofs.Common.{◌≡◌, drop}
use Rattle.ann_layout.specs.Literals as spec
use Rattle.ann_layout.proofs.literal.mark_blocks.Given as goal

abbrev pub invariant-loop-block : goal.invariant-loop-block
invariant-loop-block l = spec.with_blocks l.blocks (drop l.block-index l.blocks) l.marks ≡ spec.with_blocks l.blocks l.blocks l.fn.marks
