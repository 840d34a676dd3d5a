use Rattle.std.proofs.Common.{◌≡◌, ◌++◌, drop, map}
use Rattle.ll_joined.specs.Named.{operand_by, naming}
use Rattle.ll_joined.proofs.names.operands.Given as goal

abbrev pub invariant-loop-x : goal.invariant-loop-x
invariant-loop-x l = l.named ++ map (operand_by (naming l.names)) (drop l.x-index l.xs) ≡ map (operand_by (naming l.names)) l.xs
