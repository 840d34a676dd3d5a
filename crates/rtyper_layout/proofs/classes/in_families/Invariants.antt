use Rattle.std.proofs.Common.{◌≡◌, ◌++◌, drop}
use Rattle.rtyper_layout.specs.Families.{in_families}
use Rattle.rtyper_layout.proofs.classes.in_families.Given as goal

abbrev pub invariant-loop-class : goal.invariant-loop-class
invariant-loop-class l = l.laid ++ in_families l.classes.classes l.tops (drop l.class-index l.order) ≡ in_families l.classes.classes l.tops l.order
