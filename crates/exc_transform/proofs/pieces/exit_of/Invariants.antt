use Rattle.std.proofs.Common.{◌≡◌, ◌++◌, length}
use Rattle.exc_transform.specs.Pieces.{around_of, piece_ops, piece_exit}
use Rattle.exc_transform.proofs.pieces.exit_of.Given as goal

abbrev pub invariant-loop-rest : goal.invariant-loop-rest
invariant-loop-rest l = (l.ops ++ piece_ops (around_of l.around.raising.graphs.now l.around.raising.any l.around.slots.family l.around.slots.types.now l.around.slots.kind l.around.slots.test l.around.result) l.rest l.exit ≡ l.initial.ops ++ piece_ops (around_of l.around.raising.graphs.now l.around.raising.any l.around.slots.family l.around.slots.types.now l.around.slots.kind l.around.slots.test l.around.result) l.given l.exit) × (piece_exit (around_of l.around.raising.graphs.now l.around.raising.any l.around.slots.family l.around.slots.types.now l.around.slots.kind l.around.slots.test l.around.result) l.rest l.exit l.way ≡ piece_exit (around_of l.around.raising.graphs.now l.around.raising.any l.around.slots.family l.around.slots.types.now l.around.slots.kind l.around.slots.test l.around.result) l.given l.exit l.way)

abbrev pub decreases-loop-rest : goal.decreases-loop-rest
decreases-loop-rest l = length l.rest
