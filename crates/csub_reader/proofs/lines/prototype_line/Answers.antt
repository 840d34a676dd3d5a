use Rattle.std.proofs.Common.{rules}
use Rattle.csub_reader.proofs.Placed.{prototype_placed}
use Rattle.csub_reader.proofs.lines.prototype_line.Goals as goal

pub returns-clause-fits : goal.returns-clause-fits
returns-clause-fits c = prototype_placed c.args.n c.in_ok-next.field-0 c.in_ok-prototype.field-0 c.args.bytes.now c.prototype.new.bytes (search rules) (search rules) (search rules)
