use Rattle.std.proofs.Common.{◌≡◌, drop}
use Rattle.rtyper_layout.specs.Families.{with_names}
use Rattle.rtyper_layout.proofs.classes.push_method_names.Given as goal

abbrev pub invariant-loop-method : goal.invariant-loop-method
invariant-loop-method l = with_names l.names (drop l.method-index l.class.methods) ≡ with_names l.initial.names l.class.methods
