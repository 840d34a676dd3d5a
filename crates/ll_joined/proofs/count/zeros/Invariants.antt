use Rattle.std.proofs.Common.{◌≡◌, ◌++◌, ◌-◌}
use Rattle.ll_joined.specs.Counted.{zeros}
use Rattle.ll_joined.proofs.count.zeros.Given as goal

abbrev pub invariant-loop : goal.invariant-loop
invariant-loop l = l.counts ++ zeros (l.count - l.counter) ≡ zeros l.count
