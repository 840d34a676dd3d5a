use Rattle.std.proofs.Common.{◌≡◌, ◌++◌, reverse, length}
use Rattle.rtyper_raising.specs.Raising.{raising_graphs}
use Rattle.rtyper_raising.proofs.raising.raising_graphs.Given as goal

abbrev pub invariant-loop-graph : goal.invariant-loop-graph
invariant-loop-graph l = record {
  given : l.made ++ (raising_graphs (length l.made) (reverse l.left) l.found).0 ≡ (raising_graphs 0 (reverse l.initial.left) l.initial.found).0;
  left : (raising_graphs (length l.made) (reverse l.left) l.found).1 ≡ (raising_graphs 0 (reverse l.initial.left) l.initial.found).1;
}

abbrev pub decreases-loop-graph : goal.decreases-loop-graph
decreases-loop-graph l = length l.left
