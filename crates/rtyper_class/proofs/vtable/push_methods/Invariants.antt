use Rattle.std.proofs.Common.{◌≡◌, ◌++◌, drop}
use Rattle.rtyper_class.specs.Seen.{the_world}
use Rattle.rtyper_class.specs.Vtables.{method_cells}
use Rattle.rtyper_class.proofs.vtable.push_methods.Given as goal

abbrev pub invariant-loop-name : goal.invariant-loop-name
invariant-loop-name l =
    l.cells ++ method_cells (the_world l.around) l.reached l.class (drop l.name-index l.names)
    ≡ l.initial.cells ++ method_cells (the_world l.around) l.reached l.class l.names
