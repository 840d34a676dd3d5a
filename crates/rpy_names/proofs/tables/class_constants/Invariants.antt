use Rattle.std.proofs.Common.{◌≡◌, drop}
use Rattle.rpy_names.specs.Tables.{constants_onto, class_constants}
use Rattle.rpy_names.proofs.tables.class_constants.Given as goal

abbrev pub invariant-loop-number : goal.invariant-loop-number
invariant-loop-number l = constants_onto l.all l.names l.units l.values l.class l.number (drop l.number l.constants) ≡ class_constants l.names l.units l.values l.constants l.first l.class
