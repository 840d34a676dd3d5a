use Rattle.std.proofs.Common.{◌≡◌, drop}
use Rattle.csub_tree.specs.Statement.{any_unset, operands}
use Rattle.csub_runner.specs.Erased.{erase_all}
use Rattle.csub_runner.proofs.calls.any_unset.Given as goal

abbrev pub invariant-loop-x : goal.invariant-loop-x
invariant-loop-x l = any_unset (operands (erase_all l.vars.items) l.xs) ≡ any_unset (operands (erase_all l.vars.items) (drop l.x-index l.xs))
