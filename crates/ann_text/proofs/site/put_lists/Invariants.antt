use Rattle.std.proofs.Common.{◌≡◌, drop}
use Rattle.ann_text.specs.AnnotationText.{onto, list_line}
use Rattle.ann_text.proofs.site.put_lists.Given as goal

abbrev pub invariant-loop-number : goal.invariant-loop-number
invariant-loop-number l = onto (list_line l.labels l.annotation l.shown) l.text l.number (drop l.number l.sites) ≡ onto (list_line l.labels l.annotation l.shown) l.initial.text 0 l.sites
