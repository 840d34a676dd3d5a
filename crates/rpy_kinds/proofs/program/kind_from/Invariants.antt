use Rattle.std.proofs.Common.{◌≡◌, drop}
use Rattle.rpy_kinds.specs.Places as spec
use Rattle.rpy_kinds.proofs.program.kind_from.Given as goal

abbrev pub invariant-loop-module : goal.invariant-loop-module
invariant-loop-module l = spec.kind_from l.first (drop l.module-index l.modules) l.node ≡ spec.kind_from 0 l.modules l.fn.node
