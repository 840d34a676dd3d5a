use Rattle.std.proofs.Common.{◌≡◌, drop}
use Rattle.ll_joined.specs.Counted.{counted_in, counts_of}
use Rattle.ll_joined.proofs.count.counts_of.Given as goal

abbrev pub invariant-loop-block : goal.invariant-loop-block
invariant-loop-block l = counted_in (drop l.block-index l.blocks) l.counts ≡ counts_of l.variables l.blocks
