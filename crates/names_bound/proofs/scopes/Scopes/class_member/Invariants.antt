use Rattle.std.proofs.Common.{◌≡◌, ◌-◌, length}
use Rattle.names_bound.specs.Scopes.{member_from, class_member}
use Rattle.names_bound.proofs.scopes.Scopes.class_member.Given as goal

abbrev pub invariant-loop-turn : goal.invariant-loop-turn
invariant-loop-turn l = member_from l.self.members l.self.bases (length l.self.bases - l._turn) l.class l.name ≡ class_member l.self l.fn.class l.name
