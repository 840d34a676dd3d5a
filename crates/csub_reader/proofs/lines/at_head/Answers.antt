use Rattle.std.proofs.Common.{rules}
use Rattle.csub_reader.proofs.Placed.{head_placed}
use Rattle.csub_reader.proofs.lines.at_head.Goals as goal

pub returns-clause-fits : goal.returns-clause-fits
returns-clause-fits c = head_placed c.args.n c.len.result c.in_ok-head_of.head_of c.args.bytes.now c.head.new.bytes c.expect.new.self (search rules) (search rules) (search rules) (search rules)
