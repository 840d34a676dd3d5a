use Rattle.std.proofs.Common.{◌≡◌, take, map}
use Rattle.ann_shown.specs.Functions as spec
use Rattle.ann_shown.proofs.functions.params_in.Given as goal

abbrev pub invariant-loop-param : goal.invariant-loop-param
invariant-loop-param l = l.nodes ≡ map (spec.node_in l.first) (take l.param-index l.params)
