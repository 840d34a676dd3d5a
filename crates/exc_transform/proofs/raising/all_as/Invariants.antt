use Rattle.std.proofs.Common.{◌≡◌, ◌++◌, drop, map}
use Rattle.exc_transform.proofs.raising.all_as.Given as goal

abbrev pub invariant-loop : goal.invariant-loop
invariant-loop l = l.marks ++ map (λ graph. l.mark) (drop l.index l.graphs) ≡ map (λ graph. l.mark) l.graphs
