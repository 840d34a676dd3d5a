use Rattle.std.proofs.Common.{◌≡◌, drop}
use Rattle.ann_text.specs.AnnotationText.{with_methods}
use Rattle.ann_text.proofs.function.add_methods.Given as goal

abbrev pub invariant-loop-member : goal.invariant-loop-member
invariant-loop-member l = with_methods (drop l.member-index l.members) l.lists ≡ with_methods l.members l.fn.lists
