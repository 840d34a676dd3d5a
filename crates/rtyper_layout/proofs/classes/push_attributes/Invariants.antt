use Rattle.std.proofs.Common.{◌≡◌, ◌++◌, drop}
use Rattle.rtyper_layout.specs.Families.{own_fields}
use Rattle.rtyper_layout.proofs.classes.push_attributes.Given as goal

abbrev pub invariant-loop-attribute : goal.invariant-loop-attribute
invariant-loop-attribute l = l.fields ++ own_fields l.layout l.home (drop l.attribute-index l.attributes) ≡ l.initial.fields ++ own_fields l.layout l.home l.attributes
