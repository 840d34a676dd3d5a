use Rattle.std.proofs.Common.{◌≡◌, drop}
use Rattle.ann_needs.specs.View.{assignment, whole}
use Rattle.ann_holding.specs.Holds as spec
use Rattle.ann_holding.proofs.block.blocks_hold.Given as goal

abbrev pub invariant-loop-number : goal.invariant-loop-number
invariant-loop-number l = spec.blocks_hold (whole l.p) (assignment l.s) l.g l.graph l.number (drop l.number l.blocks) ≡ spec.blocks_hold (whole l.p) (assignment l.s) l.g l.graph 0 l.blocks
