use Rattle.std.proofs.Common.{◌≡◌, ◌++◌, ◌-◌}
use Rattle.ll_joined.specs.Copied.{own_from}
use Rattle.ll_joined.proofs.copies.own_values.Given as goal

abbrev pub invariant-loop-i : goal.invariant-loop-i
invariant-loop-i l = l.values ++ own_from l.i (l.count - l.i) ≡ own_from 0 l.count
