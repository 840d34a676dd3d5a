use Rattle.std.proofs.Common.{◌≡◌, drop}
use Rattle.ll_joined.specs.Counted.{taken_from, taken_in}
use Rattle.ll_joined.proofs.count.taken_in.Given as goal

abbrev pub invariant-loop-block : goal.invariant-loop-block
invariant-loop-block l = taken_from l.blocks l.counts (drop l.block-index l.blocks) l.taken ≡ taken_in l.blocks l.counts
