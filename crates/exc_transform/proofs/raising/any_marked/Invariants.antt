use Rattle.std.proofs.Common.{◌≡◌, drop}
use Rattle.exc_transform.specs.Raising.{any_marked}
use Rattle.exc_transform.proofs.raising.any_marked.Given as goal

abbrev pub invariant-loop-marked : goal.invariant-loop-marked
invariant-loop-marked l = any_marked (drop l.marked-index l.marks) ≡ any_marked l.marks
