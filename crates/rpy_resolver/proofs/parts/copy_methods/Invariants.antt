use Rattle.std.proofs.Common.{◌≡◌, ◌++◌, drop}
use Rattle.rpy_resolver.proofs.parts.copy_methods.Given as goal

abbrev pub invariant-loop-method : goal.invariant-loop-method
invariant-loop-method l = l.copies ++ drop l.method-index l.methods ≡ l.methods
