use Rattle.std.proofs.Common.{◌≡◌, drop}
use Rattle.ll_joined.specs.Counted.{sets_in}
use Rattle.ll_joined.proofs.count.count_sets.Given as goal

abbrev pub invariant-loop-op : goal.invariant-loop-op
invariant-loop-op l = sets_in (drop l.op-index l.ops) l.counts ≡ sets_in l.ops l.initial.counts
