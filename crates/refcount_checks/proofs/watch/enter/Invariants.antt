use Rattle.std.proofs.Common.{◌≡◌, drop}
use Rattle.refcount_checks.specs.Watch as spec
use Rattle.refcount_checks.proofs.watch.enter.Given as goal

abbrev pub invariant-loop-v : goal.invariant-loop-v
invariant-loop-v l = spec.enter (drop l.v-index l.vs) l.w ≡ spec.enter l.vs l.initial.w
