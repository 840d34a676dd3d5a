use Rattle.std.proofs.Common.{◌≡◌, drop}
use Rattle.names_value.specs.Constants.{add_constants}
use Rattle.names_value.proofs.constants.Checked.add_constants.Given as goal

abbrev pub invariant-loop-number : goal.invariant-loop-number
invariant-loop-number l = add_constants l.number l.names l.values l.found (drop l.number l.constants) l.self ≡ add_constants 0 l.names l.values l.found l.constants l.fn.self
