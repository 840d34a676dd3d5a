use Rattle.std.proofs.Common.{◌≡◌, replicate}
use Rattle.ann_element.specs.declared.element.Element.TheVariants.{Unreached}
use Rattle.ann_settled.proofs.node.unreached.Given as goal

abbrev pub invariant-loop-node : goal.invariant-loop-node
invariant-loop-node l = l.nodes ≡ replicate l._node Unreached
