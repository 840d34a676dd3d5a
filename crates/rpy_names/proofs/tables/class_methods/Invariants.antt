use Rattle.std.proofs.Common.{◌≡◌, drop}
use Rattle.rpy_names.specs.Tables.{methods_onto, class_methods}
use Rattle.rpy_names.proofs.tables.class_methods.Given as goal

abbrev pub invariant-loop-number : goal.invariant-loop-number
invariant-loop-number l = methods_onto l.all l.names l.units l.class l.number (drop l.number l.functions) ≡ class_methods l.names l.units l.functions l.first l.class
