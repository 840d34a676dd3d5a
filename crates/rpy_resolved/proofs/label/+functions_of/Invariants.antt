use Rattle.std.proofs.Common.{length}
use Rattle.rpy_resolved.proofs.label.+functions_of.Given as goal

abbrev pub decreases-functions_of : goal.decreases-functions_of
decreases-functions_of l = length l.names.now
