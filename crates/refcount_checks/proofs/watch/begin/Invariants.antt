use Rattle.std.proofs.Common.{◌≡◌, ◌++◌, drop}
use Rattle.refcount_checks.specs.Watch as spec
use Rattle.refcount_checks.proofs.watch.begin.Given as goal

abbrev pub invariant-loop : goal.invariant-loop
invariant-loop l = l.marks ++ spec.none_set (drop l.index l.types) ≡ spec.none_set l.types
