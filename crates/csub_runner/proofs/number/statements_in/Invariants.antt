use Rattle.std.proofs.Common.{◌≡◌, take, length, sum_by}
use Rattle.csub_runner.proofs.number.statements_in.Given as goal

abbrev pub invariant-loop-block : goal.invariant-loop-block
invariant-loop-block l = l.sum ≡ sum_by length (take l.block-index l.blocks)
