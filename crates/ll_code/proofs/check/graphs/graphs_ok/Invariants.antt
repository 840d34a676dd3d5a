use Rattle.std.proofs.Common.{◌≡◌, drop}
use Rattle.ll_code.specs.Typed.{graphs_ok}
use Rattle.ll_code.proofs.check.graphs.graphs_ok.Given as goal

abbrev pub invariant-loop-graph : goal.invariant-loop-graph
invariant-loop-graph l = graphs_ok l.program (drop l.graph-index l.graphs) ≡ graphs_ok l.program l.graphs
