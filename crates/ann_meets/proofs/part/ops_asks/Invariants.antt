use Rattle.std.proofs.Common.{◌≡◌, ◌++◌, drop}
use Rattle.ann_needs.specs.View as spec
use Rattle.ann_meets.specs.Parts as parts
use Rattle.ann_meets.proofs.part.ops_asks.Given as goal

abbrev pub invariant-loop-op : goal.invariant-loop-op
invariant-loop-op l = spec.seen l.asks ++ parts.ops_needs (spec.whole l.p) (spec.assignment l.s) l.g (drop l.op-index l.ops) ≡ spec.seen l.fn.asks ++ parts.ops_needs (spec.whole l.p) (spec.assignment l.s) l.g l.ops
