use Rattle.std.proofs.Common.{◌≡◌, drop}
use Rattle.ann_layout.specs.Literals as spec
use Rattle.ann_layout.proofs.literal.is_literal.Given as goal

abbrev pub invariant-loop-op : goal.invariant-loop-op
invariant-loop-op l = spec.is_literal l.v (drop l.op-index l.ops) ≡ spec.is_literal l.v l.ops
