use Rattle.std.proofs.Common.{rules}
use Rattle.csub_reader.proofs.Placed.{base_placed}
use Rattle.csub_reader.proofs.lines.base_line.Goals as goal

pub returns-clause-fits : goal.returns-clause-fits
returns-clause-fits c = base_placed c.args.n c.in_ok-name.field-0 c.args.bytes.now c.name.new.bytes c.expect.new.self (search rules) (search rules) (search rules)
