use Rattle.std.proofs.Common.{◌≡◌, drop}
use Rattle.ll_points.specs.Agrees as spec
use Rattle.refcount_checks.proofs.slots.slots_within.Given as goal

abbrev pub invariant-loop-block : goal.invariant-loop-block
invariant-loop-block l = spec.slots_within l.kinds (drop l.block-index l.blocks) ≡ spec.slots_within l.kinds l.blocks
