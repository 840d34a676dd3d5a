use Rattle.std.proofs.Common.{◌≡◌, map, take}
use Rattle.ann_layout.specs.Callees as spec
use Rattle.ann_layout.proofs.callee.callee_of.Given as goal

abbrev pub invariant-loop-param : goal.invariant-loop-param
invariant-loop-param l = l.defaults ≡ map (spec.default l.uses l.first) (take l.param-index l.f.params)
