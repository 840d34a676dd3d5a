use Rattle.std.proofs.Common.{◌≡◌, ◌++◌, drop}
use Rattle.ll_joined.specs.Joined.{places_from, places_of}
use Rattle.ll_joined.proofs.number.places_of.Given as goal

abbrev pub invariant-loop-count : goal.invariant-loop-count
invariant-loop-count l = l.places ++ places_from l.next (drop l.count-index l.named) ≡ places_of l.named
