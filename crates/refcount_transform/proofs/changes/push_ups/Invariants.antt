use Rattle.std.proofs.Common.{◌≡◌, ◌++◌, [], drop}
use Rattle.refcount_transform.specs.Changes as c
use Rattle.refcount_transform.specs.Seen.{the_graph}
use Rattle.refcount_transform.proofs.changes.push_ups.Given as goal

abbrev pub invariant-loop-x : goal.invariant-loop-x
invariant-loop-x l = l.into ++ c.ups (the_graph l.around) (drop l.x-index l.xs) [] ≡ l.initial.into ++ c.ups (the_graph l.around) l.xs []
