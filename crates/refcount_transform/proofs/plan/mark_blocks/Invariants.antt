use Rattle.std.proofs.Common.{◌≡◌, drop}
use Rattle.refcount_transform.specs.Marks as m
use Rattle.refcount_transform.proofs.plan.mark_blocks.Given as goal

abbrev pub invariant-loop-block : goal.invariant-loop-block
invariant-loop-block l = m.mark_blocks l.structs (drop l.block-index l.blocks) l.marks ≡ m.mark_blocks l.structs l.blocks l.initial.marks
