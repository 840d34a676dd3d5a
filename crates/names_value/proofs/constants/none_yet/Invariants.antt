use Rattle.std.proofs.Common.{◌≡◌}
use Rattle.names_value.specs.Constants.{none_yet}
use Rattle.names_value.proofs.constants.none_yet.Given as goal

abbrev pub invariant-loop-turn : goal.invariant-loop-turn
invariant-loop-turn l = l.values ≡ none_yet l._turn
