use Rattle.std.proofs.Common.{◌≡◌, drop}
use Rattle.rtyper_layout.specs.Families.{mark_made}
use Rattle.rtyper_layout.proofs.classes.mark_made.Given as goal

abbrev pub invariant-loop-is_made : goal.invariant-loop-is_made
invariant-loop-is_made l = record {
  counted : l.number ≡ l.is_made-index;
  rest : mark_made l.classes.classes l.is_made-index l.marks (drop l.is_made-index l.made) ≡ mark_made l.classes.classes 0 l.initial.marks l.made;
}
