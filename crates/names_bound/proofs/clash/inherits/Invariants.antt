use Rattle.std.proofs.Common.{◌≡◌, ◌-◌, length}
use Rattle.names_bound.specs.Clash.{inherits_from, inherits}
use Rattle.names_bound.proofs.clash.inherits.Given as goal

abbrev pub invariant-loop-turn : goal.invariant-loop-turn
invariant-loop-turn l = inherits_from l.bases l.classes (length l.bases - l._turn) l.class ≡ inherits l.bases l.classes l.fn.class
