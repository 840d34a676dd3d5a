use Rattle.std.proofs.Common.{◌≡◌, drop}
use Rattle.ann_text.specs.AnnotationText.{with_ops}
use Rattle.ann_text.proofs.site.add_ops.Given as goal

abbrev pub invariant-loop-op : goal.invariant-loop-op
invariant-loop-op l = with_ops l.elements (drop l.op-index l.ops) l.walked ≡ with_ops l.elements l.ops l.fn.walked
