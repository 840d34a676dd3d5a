use Rattle.std.proofs.Common.{◌≡◌, take, sum_by}
use Rattle.csub_tree.specs.Machine.{statements_in}
use Rattle.csub_runner.proofs.number.statements_of_all.Given as goal

abbrev pub invariant-loop-function : goal.invariant-loop-function
invariant-loop-function l = l.sum ≡ sum_by statements_in (take l.function-index l.functions)
