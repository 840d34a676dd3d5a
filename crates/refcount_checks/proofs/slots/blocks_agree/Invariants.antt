use Rattle.std.proofs.Common.{◌≡◌, drop}
use Rattle.ll_points.specs.Agrees as spec
use Rattle.refcount_checks.proofs.slots.blocks_agree.Given as goal

abbrev pub invariant-loop-block : goal.invariant-loop-block
invariant-loop-block l = spec.blocks_agree l.slots l.kinds (drop l.block-index l.blocks) ≡ spec.blocks_agree l.slots l.kinds l.blocks
