use Rattle.std.proofs.Common.{◌≡◌, ◌++◌, drop}
use Rattle.exc_transform.specs.Raising.{blocks_leave, any_marked}
use Rattle.std.proofs.Common.{map}
use Rattle.exc_transform.proofs.raising.marked_by.Given as goal

abbrev pub invariant-loop-graph : goal.invariant-loop-graph
invariant-loop-graph l =
    l.more ++ map (λ graph. blocks_leave l.marks (any_marked l.marks) graph.blocks) (drop l.graph-index l.graphs) ≡ map (λ graph. blocks_leave l.marks (any_marked l.marks) graph.blocks) l.graphs
