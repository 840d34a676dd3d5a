use Rattle.std.proofs.Common.{◌≡◌, ◌++◌, drop, map}
use Rattle.ll_joined.specs.Named.{naming}
use Rattle.ll_joined.specs.Joined.{block_by}
use Rattle.ll_joined.proofs.number.blocks_by.Given as goal

abbrev pub invariant-loop-block : goal.invariant-loop-block
invariant-loop-block l = l.all ++ map (block_by (naming l.names) l.numbers) (drop l.block-index l.blocks) ≡ map (block_by (naming l.names) l.numbers) l.blocks
