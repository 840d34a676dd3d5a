use Rattle.ann_needs.specs.View.{assignment, whole}
use Rattle.ann_grown.specs.Partial.{Keeps}
use Rattle.ann_meets.specs.Steps.{spots_in}
use Rattle.ann_swept.proofs.pass.pass_graphs.Given as goal

abbrev pub invariant-loop-graph : goal.invariant-loop-graph
invariant-loop-graph l = Keeps (whole l.p) (spots_in l.spots) (assignment l.fn.s) (assignment l.s)
