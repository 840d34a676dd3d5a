use Rattle.ann_needs.specs.View.{assignment, whole}
use Rattle.ann_grown.specs.Partial.{Keeps}
use Rattle.ann_meets.specs.Steps.{spots_in}
use Rattle.ann_meets.proofs.tied.tie_with.Given as goal

abbrev pub invariant-loop-other : goal.invariant-loop-other
invariant-loop-other l = Keeps (whole l.p) (spots_in l.spots) (assignment l.fn.s) (assignment l.s)
