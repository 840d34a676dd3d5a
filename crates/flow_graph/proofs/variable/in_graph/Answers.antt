use Rattle.std.proofs.Common.{◌∙◌}
use Rattle.flow_graph.specs.Values as spec
use Rattle.flow_graph.proofs.Values.{one_on}
use Rattle.flow_graph.proofs.variable.in_graph.Goals as goal

pub loop-block-preserved : goal.loop-block-preserved
loop-block-preserved c =
    c.in_block-search.ensures ∙ (one_on (spec.values_of c.args.node) c.args.graph.now.blocks c.as_slice-block-items.result.now c.loop-block.block-index c.block-item.result c.args.search c.loop-block.search c.as_slice-block-items.ensures c.loop-block-test.true c.block-item.is c.loop-block.invariant)
