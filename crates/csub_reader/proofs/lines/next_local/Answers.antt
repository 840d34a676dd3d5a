use Rattle.std.proofs.Common.{rules}
use Rattle.csub_reader.proofs.Placed.{local_placed}
use Rattle.csub_reader.proofs.lines.next_local.Goals as goal

pub returns-clause-fits : goal.returns-clause-fits
returns-clause-fits c = local_placed c.args.n c.args.k c.in_ok-next.field-0 c.in_ok-local_line.field-0 c.args.bytes.now c.local_line.new.bytes (search rules) (search rules) (search rules)
