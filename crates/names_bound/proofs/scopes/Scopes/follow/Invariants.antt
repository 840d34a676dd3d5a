use Rattle.std.proofs.Common.{◌≡◌, ◌-◌, length}
use Rattle.names_bound.specs.Scopes.{follow_from, follow}
use Rattle.names_bound.proofs.scopes.Scopes.follow.Given as goal

abbrev pub invariant-loop-turn : goal.invariant-loop-turn
invariant-loop-turn l = follow_from l.self.bindings (length l.self.bindings - l._turn) l.followed l.file l.name ≡ follow l.self l.fn.file l.fn.name
