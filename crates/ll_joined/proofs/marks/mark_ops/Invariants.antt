use Rattle.std.proofs.Common.{◌≡◌, drop}
use Rattle.ll_joined.specs.Marked.{in_ops}
use Rattle.ll_joined.proofs.marks.mark_ops.Given as goal

abbrev pub invariant-loop-op : goal.invariant-loop-op
invariant-loop-op l = in_ops (drop l.op-index l.ops) l.marks ≡ in_ops l.ops l.initial.marks
