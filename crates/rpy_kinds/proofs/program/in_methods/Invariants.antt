use Rattle.std.proofs.Common.{◌≡◌, drop}
use Rattle.rpy_kinds.specs.Places as spec
use Rattle.rpy_kinds.proofs.program.in_methods.Given as goal

abbrev pub invariant-loop-member : goal.invariant-loop-member
invariant-loop-member l = spec.in_methods l.node (drop l.member-index l.members) l.search ≡ spec.in_methods l.node l.members l.fn.search
