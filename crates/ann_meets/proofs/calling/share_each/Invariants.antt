use Rattle.ann_needs.specs.View.{assignment, whole}
use Rattle.ann_grown.specs.Partial.{Keeps}
use Rattle.ann_meets.specs.Steps.{spots_in}
use Rattle.ann_meets.proofs.calling.share_each.Given as goal

abbrev pub invariant-loop-at : goal.invariant-loop-at
invariant-loop-at l = Keeps (whole l.p) (spots_in l.spots) (assignment l.fn.s) (assignment l.s)
