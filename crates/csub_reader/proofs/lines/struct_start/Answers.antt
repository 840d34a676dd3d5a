use Rattle.std.proofs.Common.{rules}
use Rattle.csub_reader.proofs.Placed.{struct_placed}
use Rattle.csub_reader.proofs.lines.struct_start.Goals as goal

pub returns-clause-fits : goal.returns-clause-fits
returns-clause-fits c = struct_placed c.args.n c.args.bytes.now c.expect_name.new.bytes c.expect.new.self (search rules) (search rules)
