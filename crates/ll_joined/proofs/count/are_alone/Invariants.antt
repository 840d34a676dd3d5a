use Rattle.std.proofs.Common.{◌≡◌, drop}
use Rattle.ll_joined.specs.Counted.{are_alone}
use Rattle.ll_joined.proofs.count.are_alone.Given as goal

abbrev pub invariant-loop-op : goal.invariant-loop-op
invariant-loop-op l = are_alone l.counts (drop l.op-index l.ops) ≡ are_alone l.counts l.ops
