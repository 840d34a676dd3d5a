use Rattle.std.proofs.Common.{rules}
use Rattle.csub_reader.proofs.Placed.{given_by, statement_placed}
use Rattle.csub_reader.proofs.lines.at_statement.Goals as goal

pub returns-clause-fits : goal.returns-clause-fits
returns-clause-fits c = statement_placed c.args.n c.args.b c.in_ok-s.s c.args.bytes.now c.statement_line.new.bytes c.after_statement.result (given_by c.args.n c.args.b c.in_ok-s.s c.is_end.result c.after_statement.result c.is_end.ensures c.after_statement.ensures) (search rules) (search rules)
