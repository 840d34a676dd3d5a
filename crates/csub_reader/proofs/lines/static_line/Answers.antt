use Rattle.std.proofs.Common.{rules}
use Rattle.csub_reader.proofs.Placed.{static_placed}
use Rattle.csub_reader.proofs.lines.static_line.Goals as goal

pub returns-clause-fits : goal.returns-clause-fits
returns-clause-fits c = static_placed c.args.n c.in_ok-next.field-0 c.in_ok-static_text.field-0 c.args.bytes.now c.static_text.new.bytes (search rules) (search rules) (search rules)
