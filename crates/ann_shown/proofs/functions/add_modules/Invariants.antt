use Rattle.std.proofs.Common.{◌≡◌, drop}
use Rattle.ann_shown.specs.Functions as spec
use Rattle.ann_shown.proofs.functions.add_modules.Given as goal

abbrev pub invariant-loop-module : goal.invariant-loop-module
invariant-loop-module l = spec.with_modules l.first (drop l.module-index l.modules) l.all ≡ spec.with_modules 0 l.modules l.fn.all
