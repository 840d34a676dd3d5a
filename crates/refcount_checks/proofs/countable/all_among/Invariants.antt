use Rattle.std.proofs.Common.{◌≡◌, drop}
use Rattle.refcount_checks.specs.Countable as spec
use Rattle.refcount_checks.proofs.countable.all_among.Given as goal

abbrev pub invariant-loop-v : goal.invariant-loop-v
invariant-loop-v l = spec.all_among (drop l.v-index l.vs) l.ws ≡ spec.all_among l.vs l.ws
