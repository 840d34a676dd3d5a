use Rattle.std.proofs.Common.{◌≡◌, ◌++◌, [], length}
use Rattle.refcount_transform.specs.Changes as c
use Rattle.refcount_transform.specs.Seen.{the_graph}
use Rattle.refcount_transform.proofs.changes.push_dead.Given as goal

abbrev pub invariant-loop-rest : goal.invariant-loop-rest
invariant-loop-rest l = l.into ++ c.dead (the_graph l.around) l.rest l.ops l.exit [] ≡ l.initial.into ++ c.dead (the_graph l.around) l.variables l.ops l.exit []

abbrev pub decreases-loop-rest : goal.decreases-loop-rest
decreases-loop-rest l = length l.rest
