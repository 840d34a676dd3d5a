use Rattle.std.proofs.Common.{◌≡◌}
use Rattle.flow_stands.specs.Places.{range}
use Rattle.flow_space.proofs.places.range.Given as goal

abbrev pub invariant-loop-k : goal.invariant-loop-k
invariant-loop-k l = l.places ≡ range l.from l.k
