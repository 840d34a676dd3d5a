use Rattle.std.proofs.Common.{◌≡◌, drop}
use Rattle.ann_text.specs.AnnotationText.{with_blocks}
use Rattle.ann_text.proofs.site.add_blocks.Given as goal

abbrev pub invariant-loop-block : goal.invariant-loop-block
invariant-loop-block l = with_blocks l.elements (drop l.block-index l.blocks) l.walked ≡ with_blocks l.elements l.blocks l.fn.walked
