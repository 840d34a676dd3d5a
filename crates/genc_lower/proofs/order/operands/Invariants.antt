use Rattle.std.proofs.Common.{◌≡◌, ◌++◌, drop, map}
use Rattle.genc_lower.specs.Lower.{operand}
use Rattle.genc_lower.proofs.order.operands.Given as goal

abbrev pub invariant-loop-x : goal.invariant-loop-x
invariant-loop-x l = l.made ++ map (operand l.order) (drop l.x-index l.xs) ≡ map (operand l.order) l.xs
