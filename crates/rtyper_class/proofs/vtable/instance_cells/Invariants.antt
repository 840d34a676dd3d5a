use Rattle.std.proofs.Common.{◌≡◌, ◌-◌, length}
use Rattle.rtyper_class.specs.Seen.{the_world}
use Rattle.rtyper_class.specs.Vtables.{wrapped}
use Rattle.rtyper_class.proofs.vtable.instance_cells.Given as goal

abbrev pub invariant-loop-turn : goal.invariant-loop-turn
invariant-loop-turn l =
    wrapped (the_world l.around).classes.classes (length (the_world l.around).classes.classes - l._turn) l.at l.cells
    ≡ wrapped (the_world l.around).classes.classes (length (the_world l.around).classes.classes) l.class l.initial.cells
