use Rattle.std.proofs.Common.{rules}
use Rattle.csub_reader.proofs.Placed.{items_placed}
use Rattle.csub_reader.proofs.lines.items_line.Goals as goal

pub returns-clause-fits : goal.returns-clause-fits
returns-clause-fits c = items_placed c.args.n c.args.k c.in_ok-before_name.field-0 c.args.bytes.now c.expect.new.self c.before_name.new.bytes c.expect-2.new.self (search rules) (search rules) (search rules) (search rules)
