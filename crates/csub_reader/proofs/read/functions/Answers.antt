use Rattle.std.proofs.Common.{◌∙◌, ◌+◌, ◌-◌, length, rules, arith, true}
use Rattle.csub_tree.specs.Spelling.{function_text}
use Rattle.csub_text.specs.ReadFile as pure
use Rattle.csub_reader.specs.Parts.{extended, none_yet}
use Rattle.csub_reader.proofs.Longer.{numbered_next}
use Rattle.csub_reader.proofs.Loops.{counted_more, some_next, none_longer}
use Rattle.csub_reader.proofs.read.functions.Goals as goal

pub loop-turn-preserved : goal.loop-turn-preserved
loop-turn-preserved c = record {
  text =
      numbered_next function_text 0 c.len.result c.loop-turn.items c.in_ok-item.item c.push.new.self
      c.args.bytes.now c.loop-turn.bytes c.function.new.bytes
      (search rules) (omega (arith, c.len.ensures)) c.loop-turn.invariant.text (search rules);
  reads =
      some_next (pure.sees_more) pure.function c.loop-turn.items c.push.new.self c.in_ok-item.item (length c.rest-turn-end.result.now) c.loop-turn._turn (0 + length c.loop-turn.items) (0 + length c.push.new.self) (none_yet c.loop-turn.items) c.loop-turn.bytes c.function.new.bytes
      (pure.some_while (pure.sees_more) pure.function (length c.args.bytes.now) 0 true c.args.bytes.now)
      (search rules) (search rules) (search rules) (search rules) (counted_more 0 c.loop-turn.items c.push.new.self c.in_ok-item.item (search rules)) c.loop-turn.invariant.reads ∙ none_longer c.loop-turn.items c.push.new.self c.in_ok-item.item (λ b. extended c.push.new.self (pure.some_while (pure.sees_more) pure.function ((length c.rest-turn-end.result.now) - (c.loop-turn._turn + 1)) (0 + length c.push.new.self) b c.function.new.bytes)) (search rules);
}
