use Rattle.std.proofs.Common.{◌≡◌, drop}
use Rattle.ann_layout.specs.Callees as spec
use Rattle.ann_layout.proofs.callee.add_modules.Given as goal

abbrev pub invariant-loop-module : goal.invariant-loop-module
invariant-loop-module l = spec.with_modules l.uses l.first (drop l.module-index l.modules) l.callees ≡ spec.with_modules l.uses 0 l.modules l.fn.callees
