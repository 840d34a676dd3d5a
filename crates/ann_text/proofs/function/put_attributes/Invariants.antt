use Rattle.std.proofs.Common.{◌≡◌, drop}
use Rattle.ann_text.specs.AnnotationText.{attribute_lines}
use Rattle.ann_text.proofs.function.put_attributes.Given as goal

abbrev pub invariant-loop-attribute : goal.invariant-loop-attribute
invariant-loop-attribute l = attribute_lines l.labels l.same (drop l.attribute-index l.attributes) l.text ≡ attribute_lines l.labels l.same l.attributes l.initial.text
