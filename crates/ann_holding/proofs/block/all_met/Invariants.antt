use Rattle.std.proofs.Common.{◌≡◌, drop, map}
use Rattle.ann_needs.specs.View.{assignment, need_of, whole}
use Rattle.ann_holding.specs.Holds as spec
use Rattle.ann_holding.proofs.block.all_met.Given as goal

abbrev pub invariant-loop-ask : goal.invariant-loop-ask
invariant-loop-ask l = spec.all_met (whole l.p) (assignment l.s) (map need_of (drop l.ask-index l.asks)) ≡ spec.all_met (whole l.p) (assignment l.s) (map need_of l.asks)
