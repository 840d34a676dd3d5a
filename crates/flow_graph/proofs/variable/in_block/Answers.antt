use Rattle.std.proofs.Common.{◌∙◌}
use Rattle.flow_graph.specs.Values as spec
use Rattle.flow_graph.proofs.Values.{one_on}
use Rattle.flow_graph.proofs.variable.in_block.Goals as goal

pub loop-op-preserved : goal.loop-op-preserved
loop-op-preserved c =
    c.in_op-search.ensures ∙ (one_on (spec.value_of c.args.node) c.args.block.now.ops c.as_slice-op-items.result.now c.loop-op.op-index c.op-item.result c.args.search c.loop-op.search c.as_slice-op-items.ensures c.loop-op-test.true c.op-item.is c.loop-op.invariant)
