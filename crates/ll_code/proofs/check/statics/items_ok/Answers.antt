use Rattle.std.proofs.Common.{sym, ap, ◌∙◌}
use Rattle.csub_tree.specs.Checked.{plain_cells}
use Rattle.ll_code.specs.Typed.{items_ok}
use Rattle.ll_code.proofs.Levels.{items_none}
use Rattle.ll_code.proofs.check.statics.items_ok.Goals as goal

pub returns-in-len1-up : goal.returns-in-len1-up
returns-in-len1-up c = sym (ap (λ items. items_ok c.args.program.now c.args.n items (plain_cells c.args.cells.now)) c.in-None.is
    ∙ items_none c.args.program.now c.args.n c.args.cells.now c.in-len1-up.len_at_least)
