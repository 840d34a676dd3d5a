use Rattle.std.proofs.Common.{◌≡◌, drop}
use Rattle.exc_transform.specs.Families.{in_ops}
use Rattle.exc_transform.proofs.family.in_ops.Given as goal

abbrev pub invariant-loop-op : goal.invariant-loop-op
invariant-loop-op l = in_ops l.types (drop l.op-index l.ops) ≡ in_ops l.types l.ops
