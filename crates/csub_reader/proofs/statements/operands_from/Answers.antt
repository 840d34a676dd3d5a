use Rattle.std.proofs.Common.{◌++◌, ◌∷◌, length, rules, arith, length-append}
use Rattle.csub_tree.specs.Spelling.{operand_text}
use Rattle.csub_text.specs.Read as read
use Rattle.csub_text.specs.Read.{mapped}
use Rattle.csub_text.specs.ReadStatement.{rest_of}
use Rattle.csub_reader.proofs.Loops.{rest_next}
use Rattle.csub_reader.proofs.Longer.{listed_next}
use Rattle.csub_reader.proofs.statements.operands_from.Goals as goal

pub loop-turn-preserved : goal.loop-turn-preserved
loop-turn-preserved c = record {
  some = grind (arith, length-append);
  text =
      listed_next operand_text c.loop-turn.xs c.in_ok-x.x c.push-in-loop-turn.new.self
      (operand_text c.args.first ++ c.args.bytes.now) c.loop-turn.bytes c.more_operand.new.bytes
      (search rules) c.loop-turn.invariant.some c.loop-turn.invariant.text (search rules);
  reads =
      rest_next read.operand c.loop-turn.xs c.push-in-loop-turn.new.self c.in_ok-x.x (length c.rest-turn-end.result.now) c.loop-turn._turn c.loop-turn.bytes c.more_operand.new.bytes
      (mapped (λ ys. c.args.first ∷ ys) (rest_of read.operand (length c.args.bytes.now) c.args.bytes.now))
      (search rules) (search rules) (search rules) (search rules) c.loop-turn.invariant.reads;
}
