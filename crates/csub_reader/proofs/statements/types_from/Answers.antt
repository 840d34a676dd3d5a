use Rattle.std.proofs.Common.{◌++◌, ◌∷◌, length, rules, arith, length-append}
use Rattle.csub_tree.specs.Spelling.{type_alone}
use Rattle.csub_text.specs.Read as read
use Rattle.csub_text.specs.Read.{mapped}
use Rattle.csub_text.specs.ReadStatement.{rest_of}
use Rattle.csub_reader.proofs.Loops.{rest_next}
use Rattle.csub_reader.proofs.Longer.{listed_or_void_next}
use Rattle.csub_reader.proofs.statements.types_from.Goals as goal

pub loop-turn-preserved : goal.loop-turn-preserved
loop-turn-preserved c = record {
  some = grind (arith, length-append);
  text =
      listed_or_void_next type_alone c.loop-turn.kinds c.in_ok-kind.kind c.push-in-loop-turn.new.self
      (type_alone c.args.first ++ c.args.bytes.now) c.loop-turn.bytes c.more_type.new.bytes
      (search rules) c.loop-turn.invariant.some c.loop-turn.invariant.text (search rules);
  reads =
      rest_next read.type_alone c.loop-turn.kinds c.push-in-loop-turn.new.self c.in_ok-kind.kind (length c.rest-turn-end.result.now) c.loop-turn._turn c.loop-turn.bytes c.more_type.new.bytes
      (mapped (λ ys. c.args.first ∷ ys) (rest_of read.type_alone (length c.args.bytes.now) c.args.bytes.now))
      (search rules) (search rules) (search rules) (search rules) c.loop-turn.invariant.reads;
}
