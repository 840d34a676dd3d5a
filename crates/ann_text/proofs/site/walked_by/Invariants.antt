use Rattle.std.proofs.Common.{◌≡◌, drop}
use Rattle.ann_text.specs.AnnotationText.{with_graphs, walked_by}
use Rattle.ann_text.proofs.site.walked_by.Given as goal

abbrev pub invariant-loop-number : goal.invariant-loop-number
invariant-loop-number l = with_graphs l.lists l.number (drop l.number l.graphs) l.walked ≡ walked_by l.count l.lists l.graphs
