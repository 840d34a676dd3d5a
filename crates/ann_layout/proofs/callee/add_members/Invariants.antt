use Rattle.std.proofs.Common.{◌≡◌, drop}
use Rattle.ann_layout.specs.Callees as spec
use Rattle.ann_layout.proofs.callee.add_members.Given as goal

abbrev pub invariant-loop-member : goal.invariant-loop-member
invariant-loop-member l = spec.with_members l.uses l.first (drop l.member-index l.members) l.callees ≡ spec.with_members l.uses l.first l.members l.fn.callees
