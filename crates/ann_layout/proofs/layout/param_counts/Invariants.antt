use Rattle.std.proofs.Common.{◌≡◌, map, take}
use Rattle.ann_layout.specs.Layout as spec
use Rattle.ann_layout.proofs.layout.param_counts.Given as goal

abbrev pub invariant-loop-callee : goal.invariant-loop-callee
invariant-loop-callee l = l.counts ≡ map spec.param_count (take l.callee-index l.callees)
