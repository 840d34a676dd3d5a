use Rattle.std.proofs.Common.{◌≡◌, drop}
use Rattle.ann_text.specs.AnnotationText.{shown_from, shown_sites}
use Rattle.ann_text.proofs.site.shown_sites.Given as goal

abbrev pub invariant-loop-number : goal.invariant-loop-number
invariant-loop-number l = shown_from l.annotation l.walked l.number (drop l.number l.sites) l.shown ≡ shown_sites l.graphs l.annotation l.sites
