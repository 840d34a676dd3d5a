use Rattle.std.proofs.Common.{ap, ◌∙◌, sym}
use Rattle.csub_reader.proofs.Placed.{more_follows, refuses}
use Rattle.csub_text.specs.ReadLine.{read_line}
use Rattle.csub_reader.proofs.lines.follow.Goals as goal

pub returns-else-is_at_end : goal.returns-else-is_at_end
returns-else-is_at_end c =
    more_follows c.args.at c.in-Ok.next c.args.line.now c.read_line.new.bytes (ap (read_line c.args.at) (sym c.new-bytes.ensures) ∙ c.in-Ok.ensures.reads) (sym c.is_at_end.ensures.reads ∙ c.if-is_at_end.false)

pub returns-in-Err : goal.returns-in-Err
returns-in-Err c = refuses c.args.at c.args.line.now c.new-bytes.result c.read_line.new.bytes c.in-Err.fault c.new-bytes.ensures c.in-Err.ensures.reads
