use Rattle.std.proofs.Common.{◌≡◌, ◌++◌, drop}
use Rattle.ll_joined.specs.Joined.{numbers_from, numbers_of}
use Rattle.ll_joined.proofs.number.numbers_of.Given as goal

abbrev pub invariant-loop-i : goal.invariant-loop-i
invariant-loop-i l = l.numbers ++ numbers_from l.counts l.taken l.next l.i (drop l.i l.taken) ≡ numbers_of l.counts l.taken
