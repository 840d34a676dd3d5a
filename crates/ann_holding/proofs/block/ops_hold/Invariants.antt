use Rattle.std.proofs.Common.{◌≡◌, drop}
use Rattle.ann_needs.specs.View.{assignment, whole}
use Rattle.ann_holding.specs.Holds as spec
use Rattle.ann_holding.proofs.block.ops_hold.Given as goal

abbrev pub invariant-loop-op : goal.invariant-loop-op
invariant-loop-op l = spec.ops_hold (whole l.p) (assignment l.s) l.g l.graph (drop l.op-index l.ops) l.exit ≡ spec.ops_hold (whole l.p) (assignment l.s) l.g l.graph l.ops l.exit
