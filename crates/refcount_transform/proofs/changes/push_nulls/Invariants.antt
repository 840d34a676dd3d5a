use Rattle.std.proofs.Common.{◌≡◌, ◌++◌, [], drop}
use Rattle.refcount_transform.specs.Changes as c
use Rattle.refcount_transform.proofs.changes.push_nulls.Given as goal

abbrev pub invariant-loop-field : goal.invariant-loop-field
invariant-loop-field l = l.into ++ c.nulls l.v (drop l.field-index l.held) [] ≡ l.initial.into ++ c.nulls l.v l.held []
