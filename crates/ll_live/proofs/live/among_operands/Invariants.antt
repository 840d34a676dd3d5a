use Rattle.std.proofs.Common.{◌≡◌, drop}
use Rattle.ll_live.specs.Live.{among, variables_in}
use Rattle.ll_live.proofs.live.among_operands.Given as goal

abbrev pub invariant-loop-x : goal.invariant-loop-x
invariant-loop-x l = among l.v (variables_in (drop l.x-index l.xs)) ≡ among l.v (variables_in l.xs)
