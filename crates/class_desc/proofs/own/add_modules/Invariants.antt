use Rattle.std.proofs.Common.{◌≡◌, drop}
use Rattle.class_desc.specs.Tables.{add_modules}
use Rattle.class_desc.proofs.own.add_modules.Given as goal

abbrev pub invariant-loop-module : goal.invariant-loop-module
invariant-loop-module l = add_modules (drop l.module-index l.modules) l.lists ≡ add_modules l.modules l.fn.lists
