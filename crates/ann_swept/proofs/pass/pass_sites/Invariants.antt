use Rattle.ann_needs.specs.View.{assignment, whole}
use Rattle.ann_grown.specs.Partial.{Keeps}
use Rattle.ann_meets.specs.Steps.{spots_in}
use Rattle.ann_swept.proofs.pass.pass_sites.Given as goal

abbrev pub invariant-loop-site : goal.invariant-loop-site
invariant-loop-site l = Keeps (whole l.p) (spots_in l.spots) (assignment l.fn.s) (assignment l.s)
