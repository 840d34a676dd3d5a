use Rattle.std.proofs.Common.{◌≡◌, ◌++◌, reverse, length}
use Rattle.rtyper_program.proofs.graph.push_blocks.Given as goal

abbrev pub invariant-loop-block : goal.invariant-loop-block
invariant-loop-block l = l.into ++ reverse l.left ≡ l.initial.into ++ reverse l.initial.left

abbrev pub decreases-loop-block : goal.decreases-loop-block
decreases-loop-block l = length l.left
