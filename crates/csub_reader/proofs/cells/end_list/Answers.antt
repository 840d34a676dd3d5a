use Rattle.std.proofs.Common.{rules}
use Rattle.csub_tree.specs.Spelling.{cell_text}
use Rattle.csub_reader.proofs.Nested.{ended}
use Rattle.csub_reader.proofs.cells.end_list.Goals as goal

pub returns-clause-spelled : goal.returns-clause-spelled
returns-clause-spelled c =
    ended c.args.lists.now c.args.cells c.push.new.self c.args.cell c.args.bytes.now c.expect.new.self (cell_text c.braces.result)
    (search rules) (search rules) (search rules)
