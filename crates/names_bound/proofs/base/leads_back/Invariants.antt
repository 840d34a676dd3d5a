use Rattle.std.proofs.Common.{◌≡◌, ◌-◌, length}
use Rattle.names_bound.specs.Base.{back_from, leads_back}
use Rattle.names_bound.proofs.base.leads_back.Given as goal

abbrev pub invariant-loop-turn : goal.invariant-loop-turn
invariant-loop-turn l = back_from l.bases l.class (length l.bases - l._turn) l.at ≡ leads_back l.bases l.class
