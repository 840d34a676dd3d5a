use Rattle.std.proofs.Common.{sym}
use Rattle.ll_code.proofs.Levels.{items_many}
use Rattle.ll_code.proofs.check.statics.listed_ok.Goals as goal

pub returns-in-len2-up : goal.returns-in-len2-up
returns-in-len2-up c = sym (items_many c.args.program.now c.args.n c.args.kind c.args.cells.now c.in-len2-up.len_at_least)
