use Rattle.std.proofs.Common.{◌≡◌, drop}
use Rattle.names_value.specs.Constants.{add_units}
use Rattle.names_value.proofs.constants.Checked.add_units.Given as goal

abbrev pub invariant-loop-unit : goal.invariant-loop-unit
invariant-loop-unit l = add_units l.names l.values (drop l.unit-index l.found) l.self ≡ add_units l.names l.values l.found l.fn.self
