use Rattle.std.proofs.Common.{◌≡◌, ◌++◌, drop}
use Rattle.ll_live.specs.Live.{variables_in}
use Rattle.ll_live.proofs.live.push_operands.Given as goal

abbrev pub invariant-loop-x : goal.invariant-loop-x
invariant-loop-x l = l.into ++ variables_in (drop l.x-index l.xs) ≡ l.initial.into ++ variables_in l.xs
