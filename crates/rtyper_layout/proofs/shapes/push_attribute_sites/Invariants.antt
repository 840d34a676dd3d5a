use Rattle.std.proofs.Common.{◌≡◌, drop}
use Rattle.rtyper_layout.specs.Sites.{sites_in_attributes}
use Rattle.rtyper_layout.proofs.shapes.push_attribute_sites.Given as goal

abbrev pub invariant-loop-attribute : goal.invariant-loop-attribute
invariant-loop-attribute l = sites_in_attributes l.of_dicts l.sites (drop l.attribute-index l.attributes) ≡ sites_in_attributes l.of_dicts l.initial.sites l.attributes
