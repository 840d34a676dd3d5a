use Rattle.std.proofs.Common.{length}
use Rattle.rpy_resolved.proofs.label.+classes_of.Given as goal

abbrev pub decreases-classes_of : goal.decreases-classes_of
decreases-classes_of l = length l.names.now
