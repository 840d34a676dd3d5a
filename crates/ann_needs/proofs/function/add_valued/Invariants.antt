use Rattle.std.proofs.Common.{◌≡◌, ◌++◌, drop}
use Rattle.ann_needs.specs.View as spec
use Rattle.ann_needs.proofs.function.add_valued.Given as goal

abbrev pub invariant-loop-op : goal.invariant-loop-op
invariant-loop-op l = l.valued ++ spec.valued (drop l.op-index l.ops) ≡ l.fn.valued ++ spec.valued l.ops
