use Rattle.std.proofs.Common.{◌≡◌, ◌++◌, drop}
use Rattle.ann_needs.specs.View as spec
use Rattle.ann_holding.specs.Links as unmet
use Rattle.ann_holding.proofs.link.caught_asks.Given as goal

abbrev pub invariant-loop-link : goal.invariant-loop-link
invariant-loop-link l = spec.seen l.asks ++ unmet.caught_links (spec.whole l.p) (spec.assignment l.s) l.g l.graph l.v (drop l.link-index l.links) ≡ spec.seen l.fn.asks ++ unmet.caught_links (spec.whole l.p) (spec.assignment l.s) l.g l.graph l.v l.links
