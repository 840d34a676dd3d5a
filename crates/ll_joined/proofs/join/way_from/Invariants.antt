use Rattle.std.proofs.Common.{◌≡◌, ◌-◌, length}
use Rattle.ll_joined.specs.Joined.{way_from}
use Rattle.ll_joined.proofs.join.way_from.Given as goal

abbrev pub invariant-loop : goal.invariant-loop
invariant-loop l = way_from l.blocks l.counts (length l.blocks - l.counter) l.way ≡ way_from l.blocks l.counts (length l.blocks) l.initial.way
