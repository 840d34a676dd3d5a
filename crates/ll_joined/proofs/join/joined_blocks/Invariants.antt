use Rattle.std.proofs.Common.{◌≡◌, ◌++◌, drop}
use Rattle.ll_joined.specs.Joined.{joined_from, joined_blocks}
use Rattle.ll_joined.proofs.join.joined_blocks.Given as goal

abbrev pub invariant-loop-i : goal.invariant-loop-i
invariant-loop-i l = l.all ++ joined_from l.blocks l.counts l.taken l.i (drop l.i l.blocks) ≡ joined_blocks l.blocks l.counts l.taken
