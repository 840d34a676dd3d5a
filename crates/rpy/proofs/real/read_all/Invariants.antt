use Rattle.std.proofs.Common.{length, ◌≤◌}
use Rattle.rpy.proofs.real.read_all.Given as goal

abbrev pub invariant-loop : goal.invariant-loop
invariant-loop g l = length l.into.items ≤ l.limit
