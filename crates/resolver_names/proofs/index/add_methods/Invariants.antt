use Rattle.std.proofs.Common.{◌≡◌, drop}
use Rattle.resolver_names.specs.Tables.{methods_onto}
use Rattle.resolver_names.proofs.index.add_methods.Given as goal

abbrev pub invariant-loop-method : goal.invariant-loop-method
invariant-loop-method l = methods_onto (drop l.method-index l.of) l.methods ≡ methods_onto l.of l.initial.methods
