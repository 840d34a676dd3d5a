use Rattle.std.proofs.Common.{◌≡◌, drop}
use Rattle.ll_code.specs.Typed.{operations_ok}
use Rattle.ll_code.proofs.check.operations.operations_ok.Given as goal

abbrev pub invariant-loop-operation : goal.invariant-loop-operation
invariant-loop-operation l = operations_ok l.program l.graph.types (drop l.operation-index l.operations) ≡ operations_ok l.program l.graph.types l.operations
