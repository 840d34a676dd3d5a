use Rattle.std.proofs.Common.{rules}
use Rattle.csub_reader.proofs.Placed.{named}
use Rattle.csub_reader.proofs.lines.at_function.Goals as goal

pub returns-clause-fits : goal.returns-clause-fits
returns-clause-fits c = named c.args.n c.in_ok-name_line.field-0 c.args.bytes.now c.name_line.new.bytes (search rules) (search rules)
