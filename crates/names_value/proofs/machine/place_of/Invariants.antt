use Rattle.std.proofs.Common.{◌≡◌, drop}
use Rattle.names_value.specs.Machine.{place_from, place_of}
use Rattle.names_value.proofs.machine.place_of.Given as goal

abbrev pub invariant-loop-at : goal.invariant-loop-at
invariant-loop-at l = place_from l.at (drop l.at l.pairs) l.key ≡ place_of l.pairs l.key
