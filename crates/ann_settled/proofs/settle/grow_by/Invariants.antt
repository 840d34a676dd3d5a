use Rattle.ann_needs.specs.View.{assignment, whole}
use Rattle.ann_grown.specs.Partial.{Keeps}
use Rattle.ann_meets.specs.Steps.{spots_in}
use Rattle.ann_settled.proofs.settle.grow_by.Given as goal

abbrev pub invariant-loop-pass : goal.invariant-loop-pass
invariant-loop-pass l = Keeps (whole l.planned.plan) (spots_in l.spots) (assignment l.fn.s) (assignment l.s)
