use Rattle.std.proofs.Common.{◌≡◌, drop}
use Rattle.rpy_first.specs.FirstPath.{place_from, place_of}
use Rattle.rpy_first.proofs.reader.place_of.Given as goal

abbrev pub invariant-loop-i : goal.invariant-loop-i
invariant-loop-i l = place_from l.i (drop l.i l.names) l.name ≡ place_of l.names l.name
