use Rattle.std.proofs.Common.{◌≡◌, ◌++◌, take}
use Rattle.std.specs.List.{flat_map}
use Rattle.csub_tree.specs.Spelling.{more, operand_text}
use Rattle.genc_writer.proofs.statements.put_more_operands.Given as goal

abbrev pub invariant-loop-x : goal.invariant-loop-x
invariant-loop-x l = l.text ≡ l.initial.text ++ flat_map (more operand_text) (take l.x-index l.xs)
