use Rattle.std.proofs.Common.{◌≡◌, drop}
use Rattle.ann_needs.specs.View.{assignment, whole}
use Rattle.ann_holding.specs.Holds as spec
use Rattle.ann_holding.proofs.whole.sites_hold.Given as goal

abbrev pub invariant-loop-number : goal.invariant-loop-number
invariant-loop-number l = spec.sites_hold (whole l.p) (assignment l.s) l.number (drop l.number l.sites) ≡ spec.sites_hold (whole l.p) (assignment l.s) 0 l.sites
