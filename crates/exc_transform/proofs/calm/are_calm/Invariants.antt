use Rattle.std.proofs.Common.{◌≡◌, drop}
use Rattle.exc_transform.specs.Explicit.{are_calm}
use Rattle.exc_transform.proofs.calm.are_calm.Given as goal

abbrev pub invariant-loop-operation : goal.invariant-loop-operation
invariant-loop-operation l = are_calm (drop l.operation-index l.operations) ≡ are_calm l.operations
