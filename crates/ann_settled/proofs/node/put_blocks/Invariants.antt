use Rattle.std.proofs.Common.{◌≡◌, drop}
use Rattle.ann_needs.specs.View.{whole}
use Rattle.ann_settled.specs.Nodes as spec
use Rattle.ann_settled.proofs.node.put_blocks.Given as goal

abbrev pub invariant-loop-block : goal.invariant-loop-block
invariant-loop-block l = spec.put_blocks (whole l.p) l.s l.g (drop l.block-index l.blocks) l.nodes ≡ spec.put_blocks (whole l.p) l.s l.g l.blocks l.fn.nodes
