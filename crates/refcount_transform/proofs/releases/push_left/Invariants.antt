use Rattle.std.proofs.Common.{◌≡◌, ◌++◌, [], length}
use Rattle.refcount_transform.specs.Blocks as b
use Rattle.refcount_transform.specs.Seen.{the_graph}
use Rattle.refcount_transform.proofs.releases.push_left.Given as goal

abbrev pub invariant-loop-rest : goal.invariant-loop-rest
invariant-loop-rest l = l.into ++ b.left (the_graph l.around) l.given l.rest [] ≡ l.initial.into ++ b.left (the_graph l.around) l.given l.variables []

abbrev pub decreases-loop-rest : goal.decreases-loop-rest
decreases-loop-rest l = length l.rest
