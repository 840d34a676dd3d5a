use Rattle.std.proofs.Common.{◌≡◌, ◌++◌, drop, map}
use Rattle.genc_lower.specs.Lower.{statement}
use Rattle.genc_lower.proofs.operations.push_operations.Given as goal

abbrev pub invariant-loop-operation : goal.invariant-loop-operation
invariant-loop-operation l = l.into ++ map (statement l.order) (drop l.operation-index l.operations) ≡ l.initial.into ++ map (statement l.order) l.operations
