use Rattle.std.proofs.Common.{◌≡◌, drop}
use Rattle.exc_transform.specs.Explicit.{blocks_calm}
use Rattle.exc_transform.proofs.calm.blocks_calm.Given as goal

abbrev pub invariant-loop-block : goal.invariant-loop-block
invariant-loop-block l = blocks_calm (drop l.block-index l.blocks) ≡ blocks_calm l.blocks
