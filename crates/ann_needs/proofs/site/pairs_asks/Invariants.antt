use Rattle.std.proofs.Common.{◌≡◌, ◌++◌, drop}
use Rattle.ann_needs.specs.View as spec
use Rattle.ann_needs.proofs.site.pairs_asks.Given as goal

abbrev pub invariant-loop-pair : goal.invariant-loop-pair
invariant-loop-pair l = spec.seen l.asks ++ spec.pairs_needs (spec.whole l.p) (spec.assignment l.s) l.site l.dict (drop l.pair-index l.pairs) ≡ spec.seen l.fn.asks ++ spec.pairs_needs (spec.whole l.p) (spec.assignment l.s) l.site l.dict l.pairs
