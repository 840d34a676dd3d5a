use Rattle.std.proofs.Common.{◌+◌, ◌*◌, length}
use Rattle.ann_lattice.proofs.table.+some_unreached.Given as goal

abbrev pub decreases-some_unreached : goal.decreases-some_unreached
decreases-some_unreached l = length l.xs.now
