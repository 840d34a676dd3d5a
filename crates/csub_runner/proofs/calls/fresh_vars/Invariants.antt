use Rattle.std.proofs.Common.{◌≡◌, take, map}
use Rattle.csub_runner.specs.Erased.{raw_operand}
use Rattle.csub_runner.proofs.calls.fresh_vars.Given as goal

abbrev pub invariant-loop-x : goal.invariant-loop-x
invariant-loop-x l = l.fresh.items ≡ map (raw_operand l.vars.items) (take l.x-index l.xs)
