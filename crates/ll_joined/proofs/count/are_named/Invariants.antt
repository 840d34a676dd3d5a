use Rattle.std.proofs.Common.{◌≡◌, drop}
use Rattle.ll_joined.specs.Counted.{are_named}
use Rattle.ll_joined.proofs.count.are_named.Given as goal

abbrev pub invariant-loop-i : goal.invariant-loop-i
invariant-loop-i l = are_named l.counts (drop l.i l.inputs) (drop l.i l.args) ≡ are_named l.counts l.inputs l.args
