use Rattle.typed_blocks.proofs.Blocks.{blocks_are_done}
use Rattle.typed_blocks.proofs.laws.blocks_are_done.Goals as goal

pub returns : goal.returns
returns c = blocks_are_done
