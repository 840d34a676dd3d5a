use Rattle.std.proofs.Common.{◌∙◌, ◌+◌, ◌-◌, length, rules, arith, codes, true}
use Rattle.csub_tree.specs.Spelling.{block_text}
use Rattle.csub_text.specs.Read.{begins}
use Rattle.csub_text.specs.ReadFile as pure
use Rattle.csub_reader.specs.Parts.{extended, none_yet}
use Rattle.csub_reader.proofs.Longer.{numbered_next}
use Rattle.csub_reader.proofs.Loops.{counted_more, some_next, none_longer}
use Rattle.csub_reader.proofs.read.blocks.Goals as goal

pub loop-turn-preserved : goal.loop-turn-preserved
loop-turn-preserved c = record {
  text =
      numbered_next block_text 0 c.len.result c.loop-turn.blocks c.in_ok-stmts.stmts c.push.new.self
      c.args.bytes.now c.loop-turn.bytes c.block.new.bytes
      (search rules) (omega (arith, c.len.ensures)) c.loop-turn.invariant.text (search rules);
  reads =
      some_next (begins (codes "b")) pure.block c.loop-turn.blocks c.push.new.self c.in_ok-stmts.stmts (length c.rest-turn-end.result.now) c.loop-turn._turn (0 + length c.loop-turn.blocks) (0 + length c.push.new.self) (none_yet c.loop-turn.blocks) c.loop-turn.bytes c.block.new.bytes
      (pure.some_while (begins (codes "b")) pure.block (length c.args.bytes.now) 0 true c.args.bytes.now)
      (search rules) (search rules) (search rules) (search rules) (counted_more 0 c.loop-turn.blocks c.push.new.self c.in_ok-stmts.stmts (search rules)) c.loop-turn.invariant.reads ∙ none_longer c.loop-turn.blocks c.push.new.self c.in_ok-stmts.stmts (λ b. extended c.push.new.self (pure.some_while (begins (codes "b")) pure.block ((length c.rest-turn-end.result.now) - (c.loop-turn._turn + 1)) (0 + length c.push.new.self) b c.block.new.bytes)) (search rules);
}
