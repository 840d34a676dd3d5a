use Rattle.std.proofs.Common.{◌≡◌, length}
use Rattle.rpy_token.specs.Piece.{after_comment}
use Rattle.rpy_token.proofs.piece.after_comment.Given as goal

abbrev pub invariant-loop-rest : goal.invariant-loop-rest
invariant-loop-rest l = after_comment l.size l.rest ≡ after_comment l.size l.bytes

abbrev pub decreases-loop-rest : goal.decreases-loop-rest
decreases-loop-rest l = length l.rest
