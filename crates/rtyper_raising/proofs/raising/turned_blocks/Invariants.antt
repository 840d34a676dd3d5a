use Rattle.std.proofs.Common.{◌≡◌, ◌++◌, reverse, length}
use Rattle.rtyper_raising.proofs.raising.turned_blocks.Given as goal

abbrev pub invariant-loop-block : goal.invariant-loop-block
invariant-loop-block l = l.made ++ reverse l.left ≡ reverse l.initial.left

abbrev pub decreases-loop-block : goal.decreases-loop-block
decreases-loop-block l = length l.left
