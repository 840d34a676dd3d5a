use Rattle.std.proofs.Common.{◌≡◌, ◌++◌, length}
use Rattle.refcount_transform.specs.Changes as c
use Rattle.refcount_transform.specs.Seen.{the_graph}
use Rattle.refcount_transform.proofs.changes.push_ops.Given as goal

abbrev pub invariant-loop-rest : goal.invariant-loop-rest
invariant-loop-rest l = l.into ++ c.ops_of (the_graph l.around) l.rest l.exit ≡ l.initial.into ++ c.ops_of (the_graph l.around) l.ops l.exit

abbrev pub decreases-loop-rest : goal.decreases-loop-rest
decreases-loop-rest l = length l.rest
