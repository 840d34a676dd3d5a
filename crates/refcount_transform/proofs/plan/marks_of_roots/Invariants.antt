use Rattle.std.proofs.Common.{◌≡◌, ◌++◌, length}
use Rattle.refcount_transform.specs.Marks.{marks_from}
use Rattle.refcount_transform.proofs.plan.marks_of_roots.Given as goal

abbrev pub invariant-loop-rest : goal.invariant-loop-rest
invariant-loop-rest l = l.counted ++ marks_from l.structs l.marks l.n l.rest ≡ marks_from l.structs l.marks 0 l.structs

abbrev pub decreases-loop-rest : goal.decreases-loop-rest
decreases-loop-rest l = length l.rest
