use Rattle.std.proofs.Common.{◌≡◌, drop}
use Rattle.ann_layout.specs.Literals as spec
use Rattle.ann_layout.proofs.literal.literals_of.Given as goal

abbrev pub invariant-loop-graph : goal.invariant-loop-graph
invariant-loop-graph l = spec.with_graphs (drop l.graph-index l.graphs) l.marks ≡ spec.literals l.nodes l.graphs
