use Rattle.std.proofs.Common.{◌≡◌, ◌++◌, ◌+◌, length}
use Rattle.exc_transform.specs.Pieces.{around_of, behind}
use Rattle.exc_transform.proofs.blocks.push_pieces.Given as goal

abbrev pub invariant-loop-given : goal.invariant-loop-given
invariant-loop-given l = l.extra ++ behind (around_of l.around.raising.graphs.now l.around.raising.any l.around.slots.family l.around.slots.types.now l.around.slots.kind l.around.slots.test l.around.result) (l.first + length l.extra) l.given l.exit ≡ l.initial.extra ++ behind (around_of l.around.raising.graphs.now l.around.raising.any l.around.slots.family l.around.slots.types.now l.around.slots.kind l.around.slots.test l.around.result) (l.first + length l.initial.extra) l.ops l.exit

abbrev pub decreases-loop-given : goal.decreases-loop-given
decreases-loop-given l = length l.given
