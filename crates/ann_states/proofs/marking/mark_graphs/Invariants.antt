use Rattle.std.proofs.Common.{◌≡◌, drop}
use Rattle.ann_needs.specs.View.{whole}
use Rattle.ann_states.specs.Marked as spec
use Rattle.ann_states.proofs.marking.mark_graphs.Given as goal

abbrev pub invariant-loop-g : goal.invariant-loop-g
invariant-loop-g l = spec.graphs (whole l.p) l.g (drop l.g l.graphs) l.marks ≡ spec.graphs (whole l.p) 0 l.graphs l.fn.marks
