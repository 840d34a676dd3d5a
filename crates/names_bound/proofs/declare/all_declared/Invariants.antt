use Rattle.std.proofs.Common.{◌≡◌, drop}
use Rattle.names_bound.specs.Declare.{declared_from, declared}
use Rattle.names_bound.proofs.declare.all_declared.Given as goal

abbrev pub invariant-loop-unit : goal.invariant-loop-unit
invariant-loop-unit l = declared_from l.modules l.unit (drop l.unit l.units) l.so_far ≡ declared l.modules l.units
