use Rattle.std.proofs.Common.{◌≡◌, drop}
use Rattle.refcount_transform.specs.Seen.{the_plan}
use Rattle.refcount_checks.specs.Countable as spec
use Rattle.refcount_checks.proofs.countable.blocks_count.Given as goal

abbrev pub invariant-loop-block : goal.invariant-loop-block
invariant-loop-block l = spec.blocks_count (the_plan l.plan) l.graphs l.kinds (drop l.block-index l.blocks) ≡ spec.blocks_count (the_plan l.plan) l.graphs l.kinds l.blocks
