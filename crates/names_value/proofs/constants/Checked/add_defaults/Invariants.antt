use Rattle.std.proofs.Common.{◌≡◌, drop}
use Rattle.names_value.specs.Constants.{add_defaults}
use Rattle.names_value.proofs.constants.Checked.add_defaults.Given as goal

abbrev pub invariant-loop-default : goal.invariant-loop-default
invariant-loop-default l = add_defaults l.names l.values (drop l.default-index l.defaults) l.self ≡ add_defaults l.names l.values l.defaults l.fn.self
