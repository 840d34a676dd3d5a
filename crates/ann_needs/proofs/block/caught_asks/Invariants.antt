use Rattle.std.proofs.Common.{◌≡◌, ◌++◌, drop}
use Rattle.ann_needs.specs.View as spec
use Rattle.ann_needs.proofs.block.caught_asks.Given as goal

abbrev pub invariant-loop-link : goal.invariant-loop-link
invariant-loop-link l = spec.seen l.asks ++ spec.caught_needs (spec.whole l.p) (spec.assignment l.s) l.g l.graph l.v (drop l.link-index l.links) ≡ spec.seen l.fn.asks ++ spec.caught_needs (spec.whole l.p) (spec.assignment l.s) l.g l.graph l.v l.links
