use Rattle.std.proofs.Common.{◌≡◌, drop}
use Rattle.names_found.specs.Units.{parameters_onto, find_parameters}
use Rattle.names_found.proofs.unit.find_parameters.Given as goal

abbrev pub invariant-loop-parameter : goal.invariant-loop-parameter
invariant-loop-parameter l = parameters_onto l.found l.known l.scopes l.at (drop l.parameter-index l.parameters) l.finder ≡ find_parameters l.scopes l.at l.parameters l.fn.finder
