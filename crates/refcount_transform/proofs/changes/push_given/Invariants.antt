use Rattle.std.proofs.Common.{◌≡◌, ◌++◌, [], length}
use Rattle.refcount_transform.specs.Changes as c
use Rattle.refcount_transform.specs.Seen.{the_graph}
use Rattle.refcount_transform.proofs.changes.push_given.Given as goal

abbrev pub invariant-loop-rest : goal.invariant-loop-rest
invariant-loop-rest l = l.into ++ c.given (the_graph l.around) l.rest [] ≡ l.initial.into ++ c.given (the_graph l.around) l.xs []

abbrev pub decreases-loop-rest : goal.decreases-loop-rest
decreases-loop-rest l = length l.rest
