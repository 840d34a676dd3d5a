use Rattle.std.proofs.Common.{◌≡◌, drop}
use Rattle.exc_checks.specs.Tests as tests
use Rattle.exc_checks.proofs.raisable.graphs_raisable.Given as goal

abbrev pub invariant-loop-graph : goal.invariant-loop-graph
invariant-loop-graph l = tests.graphs_raisable l.raising.graphs.now l.raising.any l.root (drop l.graph-index l.graphs) ≡ tests.graphs_raisable l.raising.graphs.now l.raising.any l.root l.graphs
