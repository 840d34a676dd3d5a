use Rattle.std.proofs.Common.{◌≡◌, ◌++◌, drop}
use Rattle.std.specs.List.{flat_map}
use Rattle.rpy_checked.specs.Words as words
use Rattle.rpy_checked.proofs.program.put_operands.Given as goal

abbrev pub invariant-loop-operand : goal.invariant-loop-operand
invariant-loop-operand l = l.text ++ flat_map (words.operand_text l.labels l.same) (drop l.operand-index l.operands) ≡ l.fn.text ++ flat_map (words.operand_text l.labels l.same) l.operands
