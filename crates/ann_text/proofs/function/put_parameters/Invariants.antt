use Rattle.std.proofs.Common.{◌≡◌, drop}
use Rattle.ann_text.specs.AnnotationText.{onto, parameter}
use Rattle.ann_text.proofs.function.put_parameters.Given as goal

abbrev pub invariant-loop-place : goal.invariant-loop-place
invariant-loop-place l = onto (parameter l.labels l.same l.elements) l.text l.place (drop l.place l.names) ≡ onto (parameter l.labels l.same l.elements) l.initial.text 0 l.names
