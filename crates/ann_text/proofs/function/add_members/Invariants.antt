use Rattle.std.proofs.Common.{◌≡◌, drop}
use Rattle.ann_text.specs.AnnotationText.{with_members}
use Rattle.ann_text.proofs.function.add_members.Given as goal

abbrev pub invariant-loop-member : goal.invariant-loop-member
invariant-loop-member l = with_members (drop l.member-index l.members) l.lists ≡ with_members l.members l.fn.lists
