use Rattle.std.proofs.Common.{◌≡◌, drop}
use Rattle.refcount_transform.specs.Plan as p
use Rattle.refcount_transform.proofs.slots.set_by_blocks.Given as goal

abbrev pub invariant-loop-block : goal.invariant-loop-block
invariant-loop-block l = p.set_by_blocks (drop l.block-index l.blocks) ≡ p.set_by_blocks l.blocks
