use Rattle.std.proofs.Common.{◌≡◌, drop}
use Rattle.names_found.specs.Locals.{add_parameters}
use Rattle.names_found.proofs.locals.Locals.add_parameters.Given as goal

abbrev pub invariant-loop-parameter : goal.invariant-loop-parameter
invariant-loop-parameter l = add_parameters l.self (drop l.parameter-index l.parameters) ≡ add_parameters l.fn.self l.parameters
