use Rattle.std.proofs.Common.{◌+◌, length, rules, arith}
use Rattle.csub_tree.specs.Spelling.{field_line}
use Rattle.csub_text.specs.ReadFile as pure
use Rattle.csub_reader.proofs.Longer.{numbered_next}
use Rattle.csub_reader.proofs.Loops.{counted_more, while_next}
use Rattle.csub_reader.proofs.parts.field_lines.Goals as goal

pub loop-turn-preserved : goal.loop-turn-preserved
loop-turn-preserved c = record {
  text =
      numbered_next field_line c.args.first (c.args.first + c.len.result) c.loop-turn.kinds c.in_ok-kind.kind c.push.new.self
      c.args.bytes.now c.loop-turn.bytes c.field_line.new.bytes
      (search rules) (omega (arith, c.len.ensures)) c.loop-turn.invariant.text (search rules);
  reads =
      while_next (pure.sees_field_line) pure.field_line c.loop-turn.kinds c.push.new.self c.in_ok-kind.kind (length c.rest-turn-end.result.now) c.loop-turn._turn (c.args.first + length c.loop-turn.kinds) (c.args.first + length c.push.new.self) c.loop-turn.bytes c.field_line.new.bytes
      (pure.parts_while (pure.sees_field_line) pure.field_line (length c.args.bytes.now) c.args.first c.args.bytes.now)
      (search rules) (search rules) (search rules) (search rules) (counted_more c.args.first c.loop-turn.kinds c.push.new.self c.in_ok-kind.kind (search rules)) c.loop-turn.invariant.reads;
}
