use Rattle.std.proofs.Common.{◌≡◌, ◌+◌, ◌≤◌, drop}
use Rattle.rtyper_layout.specs.Families.{tops}
use Rattle.rtyper_layout.proofs.classes.count_tops.Given as goal

abbrev pub invariant-loop-class : goal.invariant-loop-class
invariant-loop-class l = record {
  few : l.count ≤ l.class-index;
  rest : l.count + tops l.classes.classes (drop l.class-index l.order) ≡ tops l.classes.classes l.order;
}
