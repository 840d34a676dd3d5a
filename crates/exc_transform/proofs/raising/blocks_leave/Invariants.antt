use Rattle.std.proofs.Common.{◌≡◌, drop}
use Rattle.exc_transform.specs.Raising.{blocks_leave}
use Rattle.exc_transform.proofs.raising.blocks_leave.Given as goal

abbrev pub invariant-loop-block : goal.invariant-loop-block
invariant-loop-block l = blocks_leave l.raising.graphs.now l.raising.any (drop l.block-index l.blocks) ≡ blocks_leave l.raising.graphs.now l.raising.any l.blocks
