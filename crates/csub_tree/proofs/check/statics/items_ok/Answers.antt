use Rattle.std.proofs.Common.{sym, ap, ◌∙◌}
use Rattle.csub_tree.specs.Checked.{items_ok, plain_cells}
use Rattle.csub_tree.proofs.Levels.{items_none}
use Rattle.csub_tree.proofs.check.statics.items_ok.Goals as goal

pub returns-in-len1-up : goal.returns-in-len1-up
returns-in-len1-up c = sym (ap (λ items. items_ok c.args.file.now c.args.n items (plain_cells c.args.cells.now)) c.in-None.is
    ∙ items_none c.args.file.now c.args.n c.args.cells.now c.in-len1-up.len_at_least)
