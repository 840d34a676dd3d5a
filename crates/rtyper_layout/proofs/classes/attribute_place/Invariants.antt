use Rattle.std.proofs.Common.{◌≡◌, ◌≤◌, drop}
use Rattle.rtyper_layout.specs.Families.{place_from}
use Rattle.rtyper_layout.proofs.classes.attribute_place.Given as goal

abbrev pub invariant-loop-attribute : goal.invariant-loop-attribute
invariant-loop-attribute l = record {
  few : l.place ≤ l.attribute-index;
  rest : place_from l.place (drop l.attribute-index l.attributes) l.home l.name ≡ place_from 0 l.attributes l.home l.name;
}
