use Rattle.std.proofs.Common.{◌++◌, ◌∷◌, length, codes, rules, arith, length-append}
use Rattle.csub_tree.specs.Spelling.{parameter}
use Rattle.csub_text.specs.Read.{begins, mapped}
use Rattle.csub_text.specs.ReadFile as pure
use Rattle.csub_reader.proofs.Loops.{while_next}
use Rattle.csub_reader.proofs.Longer.{parameters_next}
use Rattle.csub_reader.proofs.parts.parameters_from.Goals as goal

pub loop-turn-preserved : goal.loop-turn-preserved
loop-turn-preserved c = record {
  some = grind (arith, length-append);
  text =
      parameters_next c.len.result c.loop-turn.kinds c.in_ok-kind.kind c.push-in-loop-turn.new.self
      (parameter 0 c.args.first ++ c.args.bytes.now) c.loop-turn.bytes c.more_parameter.new.bytes
      (search rules) c.loop-turn.invariant.some (search rules) c.loop-turn.invariant.text (search rules);
  reads =
      while_next (begins (codes ", ")) pure.more_parameter c.loop-turn.kinds c.push-in-loop-turn.new.self c.in_ok-kind.kind (length c.rest-turn-end.result.now) c.loop-turn._turn (length c.loop-turn.kinds) (length c.push-in-loop-turn.new.self) c.loop-turn.bytes c.more_parameter.new.bytes
      (mapped (λ ys. c.args.first ∷ ys) (pure.parts_while (begins (codes ", ")) pure.more_parameter (length c.args.bytes.now) 1 c.args.bytes.now))
      (search rules) (search rules) (search rules) (search rules) (grind (arith, length-append)) c.loop-turn.invariant.reads;
}
