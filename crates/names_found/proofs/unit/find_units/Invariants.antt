use Rattle.std.proofs.Common.{◌≡◌, drop}
use Rattle.names_found.specs.Units.{units_onto, find_units}
use Rattle.names_found.proofs.unit.find_units.Given as goal

abbrev pub invariant-loop-unit : goal.invariant-loop-unit
invariant-loop-unit l = units_onto l.found l.scopes (drop l.unit-index l.units) l.finder ≡ find_units l.scopes l.units l.fn.finder
