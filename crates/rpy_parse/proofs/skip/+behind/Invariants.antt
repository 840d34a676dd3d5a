use Rattle.std.proofs.Common.{length}
use Rattle.rpy_parse.proofs.skip.+behind.Given as goal

abbrev pub decreases-behind : goal.decreases-behind
decreases-behind l = length l.piece.now
