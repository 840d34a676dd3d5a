use Rattle.std.proofs.Common.{◌+◌, ◌*◌, length}
use Rattle.ann_lattice.proofs.upper.+union.Given as goal

abbrev pub decreases-union : goal.decreases-union
decreases-union l = length l.a.now + length l.b.now
