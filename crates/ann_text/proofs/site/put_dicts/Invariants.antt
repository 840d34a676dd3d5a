use Rattle.std.proofs.Common.{◌≡◌, drop}
use Rattle.ann_text.specs.AnnotationText.{onto, dict_line}
use Rattle.ann_text.proofs.site.put_dicts.Given as goal

abbrev pub invariant-loop-number : goal.invariant-loop-number
invariant-loop-number l = onto (dict_line l.labels l.annotation l.shown) l.text l.number (drop l.number l.sites) ≡ onto (dict_line l.labels l.annotation l.shown) l.initial.text 0 l.sites
