use Rattle.std.proofs.Common.{◌∙◌, rules}
use Rattle.csub_reader.proofs.Strip.{strips_short}
use Rattle.csub_reader.proofs.cursor.stripped.Goals as goal

pub returns-in_default-clause-reads : goal.returns-in_default-clause-reads
returns-in_default-clause-reads c =
    c.loop-p.invariant.reads ∙ strips_short c.args.start.now c.loop-p.p-index c.loop-p.rest.now (search rules) (search rules)
