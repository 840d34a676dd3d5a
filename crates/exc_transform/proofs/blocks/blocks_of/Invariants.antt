use Rattle.std.proofs.Common.{◌≡◌, ◌++◌, ◌+◌, drop, length}
use Rattle.exc_transform.specs.Pieces.{around_of, firsts, others}
use Rattle.exc_transform.proofs.blocks.blocks_of.Given as goal

abbrev pub invariant-loop-block : goal.invariant-loop-block
invariant-loop-block l = (l.made ++ firsts (around_of l.around.raising.graphs.now l.around.raising.any l.around.slots.family l.around.slots.types.now l.around.slots.kind l.around.slots.test l.around.result) (l.first + length l.extra) (drop l.block-index l.blocks) ≡ firsts (around_of l.around.raising.graphs.now l.around.raising.any l.around.slots.family l.around.slots.types.now l.around.slots.kind l.around.slots.test l.around.result) l.first l.blocks) × (l.extra ++ others (around_of l.around.raising.graphs.now l.around.raising.any l.around.slots.family l.around.slots.types.now l.around.slots.kind l.around.slots.test l.around.result) (l.first + length l.extra) (drop l.block-index l.blocks) ≡ others (around_of l.around.raising.graphs.now l.around.raising.any l.around.slots.family l.around.slots.types.now l.around.slots.kind l.around.slots.test l.around.result) l.first l.blocks)
