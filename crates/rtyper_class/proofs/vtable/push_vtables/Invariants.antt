use Rattle.std.proofs.Common.{◌≡◌, ◌++◌, drop, map}
use Rattle.rtyper_class.specs.Seen.{the_world}
use Rattle.rtyper_class.specs.Vtables.{vtable, vtables}
use Rattle.rtyper_class.proofs.vtable.push_vtables.Given as goal

abbrev pub invariant-loop-class : goal.invariant-loop-class
invariant-loop-class l =
    l.statics ++ map (vtable (the_world l.around) l.program l.reached) (drop l.class-index (the_world l.around).around.layout.order)
    ≡ l.initial.statics ++ vtables (the_world l.around) l.program l.reached
