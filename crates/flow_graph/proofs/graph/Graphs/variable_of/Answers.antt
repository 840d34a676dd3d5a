use Rattle.std.proofs.Common.{sym, ◌∙◌}
use Rattle.flow_graph.specs.declared.variable.Search.TheVariants.{Left}
use Rattle.flow_graph.specs.Values as spec
use Rattle.flow_graph.proofs.Values.{one_on, at_end, found, left}
use Rattle.flow_graph.proofs.graph.Graphs.variable_of.Goals as goal

pub loop-graph-preserved : goal.loop-graph-preserved
loop-graph-preserved c =
    c.in_graph-search.ensures ∙ (one_on (spec.values_in c.args.node) c.args.self.now.graphs c.as_slice-graph-items.result.now c.loop-graph.graph-index c.graph-item.result (Left c.args.i) c.loop-graph.search c.as_slice-graph-items.ensures c.loop-graph-test.true c.graph-item.is c.loop-graph.invariant)

pub returns-in-Found : goal.returns-in-Found
returns-in-Found c = sym (found c.args.i (spec.values c.args.node c.args.self.now) c.in-Found.variable
    (at_end (spec.values_in c.args.node) c.args.self.now.graphs c.as_slice-graph-items.result.now c.loop-graph.graph-index (Left c.args.i) c.loop-graph.search c.as_slice-graph-items.ensures c.loop-graph-test.false c.loop-graph.invariant
    ∙ c.in-Found.is))

pub returns-in-Left : goal.returns-in-Left
returns-in-Left c = sym (left c.args.i (spec.values c.args.node c.args.self.now) c.in-Left.field-0
    (at_end (spec.values_in c.args.node) c.args.self.now.graphs c.as_slice-graph-items.result.now c.loop-graph.graph-index (Left c.args.i) c.loop-graph.search c.as_slice-graph-items.ensures c.loop-graph-test.false c.loop-graph.invariant
    ∙ c.in-Left.is))
