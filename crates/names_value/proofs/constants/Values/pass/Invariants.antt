use Rattle.std.proofs.Common.{◌≡◌, drop}
use Rattle.names_value.specs.Constants.{pass_from, pass}
use Rattle.names_value.proofs.constants.Values.pass.Given as goal

abbrev pub invariant-loop-number : goal.invariant-loop-number
invariant-loop-number l = pass_from l.names l.found l.number (drop l.number l.constants) l.self ≡ pass l.names l.found l.constants l.fn.self
