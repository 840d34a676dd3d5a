use Rattle.std.proofs.Common.{◌+◌, ◌*◌, length}
use Rattle.ann_lattice.proofs.table.+some_conflict.Given as goal

abbrev pub decreases-some_conflict : goal.decreases-some_conflict
decreases-some_conflict l = length l.xs.now
