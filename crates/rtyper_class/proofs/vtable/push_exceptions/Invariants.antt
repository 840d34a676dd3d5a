use Rattle.std.proofs.Common.{◌≡◌, ◌++◌}
use Rattle.rtyper_class.specs.Seen.{the_world}
use Rattle.rtyper_class.specs.Vtables.{exceptions_to}
use Rattle.rtyper_class.proofs.vtable.push_exceptions.Given as goal

abbrev pub invariant-loop-class : goal.invariant-loop-class
invariant-loop-class l = l.statics ≡ l.initial.statics ++ exceptions_to (the_world l.around) l.class
