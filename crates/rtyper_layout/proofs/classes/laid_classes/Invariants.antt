use Rattle.std.proofs.Common.{◌≡◌, ◌≤◌, drop}
use Rattle.rtyper_layout.specs.Families.{lay_from}
use Rattle.rtyper_layout.proofs.classes.laid_classes.Given as goal

abbrev pub invariant-loop-class : goal.invariant-loop-class
invariant-loop-class l = record {
  few : l.vtable ≤ l.class-index;
  counted : l.place ≡ l.class-index;
  rest : lay_from l.classes.classes l.first l.class-index l.vtable l.laid (drop l.class-index l.order) ≡ lay_from l.classes.classes l.first 0 0 l.initial.laid l.order;
}
