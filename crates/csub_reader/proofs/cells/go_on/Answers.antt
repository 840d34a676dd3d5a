use Rattle.std.proofs.Common.{rules}
use Rattle.csub_reader.proofs.Nested.{gone_on}
use Rattle.csub_reader.proofs.cells.go_on.Goals as goal

pub returns-clause-spelled : goal.returns-clause-spelled
returns-clause-spelled c =
    gone_on c.args.lists.now c.push-2.new.self c.args.cells c.push.new.self c.args.cell c.args.bytes.now c.expect.new.self
    (search rules) (search rules) (search rules)
