use Rattle.std.proofs.Common.{◌-◌, length}
use Rattle.rpy_front.specs.Modules.{AreFirst}
use Rattle.rpy_front.proofs.modules.read_modules.Given as goal

abbrev pub invariant-loop-source : goal.invariant-loop-source
invariant-loop-source l = AreFirst l.sources l.names l.modules

abbrev pub decreases-loop-source : goal.decreases-loop-source
decreases-loop-source l = length l.sources - length l.modules
