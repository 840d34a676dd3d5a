use Rattle.std.proofs.Common.{◌≡◌, ◌-◌, length}
use Rattle.names_value.specs.Constants.{rounds, constant_values}
use Rattle.names_value.proofs.constants.constant_values.Given as goal

abbrev pub invariant-loop-round : goal.invariant-loop-round
invariant-loop-round l = rounds l.names l.found l.constants (length l.constants - l._round) l.values ≡ constant_values l.names l.found l.constants
