use Rattle.std.proofs.Common.{◌∙◌, length, rules}
use Rattle.csub_tree.specs.Spelling.{statement_line}
use Rattle.csub_text.specs.ReadFile as pure
use Rattle.csub_reader.proofs.Longer.{flat_map_next}
use Rattle.csub_reader.proofs.Loops.{statements_next, statements_last}
use Rattle.csub_reader.proofs.statements.statements.Goals as goal

pub loop-turn-preserved : goal.loop-turn-preserved
loop-turn-preserved c = record {
  text =
      flat_map_next statement_line c.loop-turn.stmts c.in_ok-s.s c.push.new.self
      c.args.bytes.now c.loop-turn.bytes c.statement_line.new.bytes
      (search rules) c.loop-turn.invariant.text (search rules);
  reads =
      statements_next c.loop-turn.stmts c.push.new.self c.in_ok-s.s (length c.rest-turn-end.result.now) c.loop-turn._turn c.loop-turn.bytes c.statement_line.new.bytes
      (pure.statements (length c.args.bytes.now) c.args.bytes.now)
      (search rules) (search rules) (search rules) (search rules) c.loop-turn.invariant.reads;
}

pub returns-then-last-clause-reads : goal.returns-then-last-clause-reads
returns-then-last-clause-reads c =
    c.loop-turn.invariant.reads
    ∙ statements_last c.loop-turn.stmts c.push.new.self c.in_ok-s.s (length c.rest-turn-end.result.now) c.loop-turn._turn c.loop-turn.bytes c.statement_line.new.bytes
    (search rules) (search rules) (search rules) (search rules)
