use Rattle.std.proofs.Common.{◌≡◌, drop, []}
use Rattle.rtyper_layout.specs.Families.{family_names}
use Rattle.rtyper_layout.proofs.classes.method_names.Given as goal

abbrev pub invariant-loop-class : goal.invariant-loop-class
invariant-loop-class l = family_names l.classes.classes l.program.classes l.top l.names (drop l.class-index l.order) ≡ family_names l.classes.classes l.program.classes l.top [] l.order
