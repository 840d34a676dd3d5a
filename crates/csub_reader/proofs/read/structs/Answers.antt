use Rattle.std.proofs.Common.{◌+◌, length, rules, arith, codes}
use Rattle.csub_tree.specs.Spelling.{struct_text}
use Rattle.csub_text.specs.Read.{begins}
use Rattle.csub_text.specs.ReadFile as pure
use Rattle.csub_reader.proofs.Longer.{numbered_next}
use Rattle.csub_reader.proofs.Loops.{counted_more, while_next}
use Rattle.csub_reader.proofs.read.structs.Goals as goal

pub loop-turn-preserved : goal.loop-turn-preserved
loop-turn-preserved c = record {
  text =
      numbered_next struct_text 0 c.len.result c.loop-turn.items c.in_ok-item.item c.push.new.self
      c.args.bytes.now c.loop-turn.bytes c.struct_text.new.bytes
      (search rules) (omega (arith, c.len.ensures)) c.loop-turn.invariant.text (search rules);
  reads =
      while_next (begins (codes "struct ")) pure.struct_text c.loop-turn.items c.push.new.self c.in_ok-item.item (length c.rest-turn-end.result.now) c.loop-turn._turn (0 + length c.loop-turn.items) (0 + length c.push.new.self) c.loop-turn.bytes c.struct_text.new.bytes
      (pure.parts_while (begins (codes "struct ")) pure.struct_text (length c.args.bytes.now) 0 c.args.bytes.now)
      (search rules) (search rules) (search rules) (search rules) (counted_more 0 c.loop-turn.items c.push.new.self c.in_ok-item.item (search rules)) c.loop-turn.invariant.reads;
}
