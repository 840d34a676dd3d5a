use Rattle.std.proofs.Common.{◌≡◌, drop}
use Rattle.exc_transform.specs.Raising.{raises_within}
use Rattle.exc_transform.proofs.raising.raises_within.Given as goal

abbrev pub invariant-loop-block : goal.invariant-loop-block
invariant-loop-block l = raises_within l.raising.graphs.now l.raising.any (drop l.block-index l.blocks) ≡ raises_within l.raising.graphs.now l.raising.any l.blocks
