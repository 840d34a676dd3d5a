use Rattle.std.proofs.Common.{◌≡◌, ◌++◌, drop}
use Rattle.rtyper_layout.specs.Families.{all_names}
use Rattle.rtyper_layout.proofs.layout.all_methods.Given as goal

abbrev pub invariant-loop-class : goal.invariant-loop-class
invariant-loop-class l =
    l.methods ++ all_names l.classes.classes l.program.classes l.order (drop l.class-index l.order) ≡ all_names l.classes.classes l.program.classes l.order l.order
