use Rattle.std.proofs.Common.{◌≡◌, drop}
use Rattle.exc_transform.specs.Raising.{settled, raising_graphs}
use Rattle.exc_transform.proofs.raising.raising_graphs.Given as goal

abbrev pub invariant-loop : goal.invariant-loop
invariant-loop l = settled l.graphs (drop l.index l.graphs) l.marks ≡ raising_graphs l.graphs
