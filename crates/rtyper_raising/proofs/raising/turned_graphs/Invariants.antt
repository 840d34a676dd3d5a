use Rattle.std.proofs.Common.{◌≡◌, ◌++◌, reverse, length}
use Rattle.rtyper_raising.proofs.raising.turned_graphs.Given as goal

abbrev pub invariant-loop-graph : goal.invariant-loop-graph
invariant-loop-graph l = l.made ++ reverse l.left ≡ reverse l.initial.left

abbrev pub decreases-loop-graph : goal.decreases-loop-graph
decreases-loop-graph l = length l.left
