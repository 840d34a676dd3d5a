use Rattle.std.proofs.Common.{◌≡◌, drop}
use Rattle.ann_needs.specs.View.{assignment, whole}
use Rattle.ann_holding.specs.Holds as spec
use Rattle.ann_holding.proofs.whole.starts_hold.Given as goal

abbrev pub invariant-loop-f : goal.invariant-loop-f
invariant-loop-f l = spec.starts_hold (whole l.p) (assignment l.s) l.f (drop l.f l.callees) ≡ spec.starts_hold (whole l.p) (assignment l.s) 0 l.callees
