use Rattle.std.proofs.Common.{◌≡◌, drop}
use Rattle.rtyper_layout.specs.Sites.{shapes_in_attributes}
use Rattle.rtyper_layout.proofs.shapes.push_attribute_shapes.Given as goal

abbrev pub invariant-loop-attribute : goal.invariant-loop-attribute
invariant-loop-attribute l = shapes_in_attributes l.layout (drop l.attribute-index l.attributes) ≡ shapes_in_attributes l.initial.layout l.attributes
