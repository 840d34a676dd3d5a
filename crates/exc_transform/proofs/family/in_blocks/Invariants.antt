use Rattle.std.proofs.Common.{◌≡◌, drop}
use Rattle.exc_transform.specs.Families.{in_blocks}
use Rattle.exc_transform.proofs.family.in_blocks.Given as goal

abbrev pub invariant-loop-block : goal.invariant-loop-block
invariant-loop-block l = in_blocks l.types (drop l.block-index l.blocks) ≡ in_blocks l.types l.blocks
