use Rattle.std.proofs.Common.{◌≡◌, drop}
use Rattle.ann_text.specs.AnnotationText.{with_functions}
use Rattle.ann_text.proofs.function.put_functions.Given as goal

abbrev pub invariant-loop-number : goal.invariant-loop-number
invariant-loop-number l = with_functions l.labels l.annotation l.number (drop l.number l.lists) l.text ≡ with_functions l.labels l.annotation 0 l.lists l.initial.text
