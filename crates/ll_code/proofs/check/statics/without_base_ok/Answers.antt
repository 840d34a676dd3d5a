use Rattle.std.proofs.Common.{sym, ap, ◌∙◌}
use Rattle.std.specs.Prelude.{is_none}
use Rattle.csub_tree.specs.Checked.{plain_cells}
use Rattle.ll_code.proofs.Levels.{within_missing, within_last, within_one}
use Rattle.ll_code.proofs.check.statics.without_base_ok.Goals as goal

pub returns-in_default : goal.returns-in_default
returns-in_default c = sym (within_missing c.args.program.now c.args.n 0 c.args.kind (plain_cells c.args.cells.now) c.in_default.ensures.value)

pub returns-in-None : goal.returns-in-None
returns-in-None c = c.own_ok.ensures
    ∙ sym (within_last c.args.program.now c.args.n 0 c.args.kind (plain_cells c.args.cells.now) c.in-Some.item.now c.in-Some.ensures.value (ap is_none c.in-None.is))

pub returns-in-Some-base : goal.returns-in-Some-base
returns-in-Some-base c =
    sym (within_one c.args.program.now c.args.n c.args.kind (plain_cells c.args.cells.now) c.in-Some.item.now c.in-Some.ensures.value (ap is_none c.in-Some-base.is))
