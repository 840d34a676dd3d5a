use Rattle.std.proofs.Common.{◌≡◌, ◌++◌, drop}
use Rattle.rtyper_layout.specs.Families.{class_structs}
use Rattle.rtyper_layout.proofs.classes.push_class_structs.Given as goal

abbrev pub invariant-loop-class : goal.invariant-loop-class
invariant-loop-class l =
    l.structs ++ class_structs l.layout l.classes.classes l.annotation.attributes (drop l.class-index l.order)
    ≡ l.initial.structs ++ class_structs l.layout l.classes.classes l.annotation.attributes l.order
