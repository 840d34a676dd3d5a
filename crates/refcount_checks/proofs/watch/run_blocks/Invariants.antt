use Rattle.std.proofs.Common.{◌≡◌, drop}
use Rattle.refcount_checks.specs.Watch as spec
use Rattle.refcount_checks.proofs.watch.run_blocks.Given as goal

abbrev pub invariant-loop-block : goal.invariant-loop-block
invariant-loop-block l = spec.run_blocks (drop l.block-index l.blocks) l.w ≡ spec.run_blocks l.blocks l.initial.w
