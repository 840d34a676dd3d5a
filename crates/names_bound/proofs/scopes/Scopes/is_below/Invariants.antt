use Rattle.std.proofs.Common.{◌≡◌, ◌-◌, length}
use Rattle.names_bound.specs.Scopes.{below_from, is_below}
use Rattle.names_bound.proofs.scopes.Scopes.is_below.Given as goal

abbrev pub invariant-loop-turn : goal.invariant-loop-turn
invariant-loop-turn l = below_from l.self.bases l.above (length l.self.bases - l._turn) l.class ≡ is_below l.self l.fn.class l.above
