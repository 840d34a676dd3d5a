use Rattle.std.proofs.Common.{◌≡◌, drop}
use Rattle.refcount_checks.specs.Watch as spec
use Rattle.refcount_checks.proofs.watch.ask.Given as goal

abbrev pub invariant-loop-v : goal.invariant-loop-v
invariant-loop-v l = spec.ask (drop l.v-index l.vs) l.w ≡ spec.ask l.vs l.initial.w
