use Rattle.std.proofs.Common.{◌≡◌, drop}
use Rattle.exc_ready.specs.Raisable as spec
use Rattle.exc_checks.proofs.raisable.all_among.Given as goal

abbrev pub invariant-loop-v : goal.invariant-loop-v
invariant-loop-v l = spec.all_among (drop l.v-index l.variables) l.others ≡ spec.all_among l.variables l.others
