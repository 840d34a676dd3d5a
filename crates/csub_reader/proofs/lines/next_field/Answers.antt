use Rattle.std.proofs.Common.{rules}
use Rattle.csub_reader.proofs.Placed.{field_placed}
use Rattle.csub_reader.proofs.lines.next_field.Goals as goal

pub returns-clause-fits : goal.returns-clause-fits
returns-clause-fits c = field_placed c.args.n c.args.k c.in_ok-next.field-0 c.in_ok-field_line.field-0 c.args.bytes.now c.field_line.new.bytes (search rules) (search rules) (search rules)
