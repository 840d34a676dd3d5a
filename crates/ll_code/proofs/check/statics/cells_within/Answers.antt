use Rattle.std.proofs.Common.{◌-◌, ◌+◌, sym, ap, suc, ◌∙◌}
use Rattle.std.specs.Prelude.{is_none}
use Rattle.csub_tree.specs.Checked.{plain_cells}
use Rattle.ll_code.specs.Typed.{cells_within}
use Rattle.ll_code.proofs.Levels.{within_missing, within_bad, within_last, within_next, within_end}
use Rattle.ll_code.proofs.check.statics.cells_within.Goals as goal

pub returns-in_default : goal.returns-in_default
returns-in_default c =
    sym (within_missing c.args.program.now c.args.n (c.args.kind - c.loop-i._i) c.loop-i.at (plain_cells c.loop-i.rest.now) c.in_default.ensures.value) ∙ c.loop-i.invariant

pub returns-then-not-own_ok : goal.returns-then-not-own_ok
returns-then-not-own_ok c =
    sym (within_bad c.args.program.now c.args.n (c.args.kind - c.loop-i._i) c.loop-i.at (plain_cells c.loop-i.rest.now) c.in-Some.item.now c.in-Some.ensures.value (sym c.own_ok.ensures ∙ c.if-not-own_ok.true))
    ∙ c.loop-i.invariant

pub returns-in-None : goal.returns-in-None
returns-in-None c =
    sym (within_last c.args.program.now c.args.n (c.args.kind - c.loop-i._i) c.loop-i.at (plain_cells c.loop-i.rest.now) c.in-Some.item.now c.in-Some.ensures.value (ap is_none c.in-None.is)
    ∙ sym c.own_ok.ensures ∙ c.if-not-own_ok.false) ∙ c.loop-i.invariant

pub loop-i-preserved : goal.loop-i-preserved
loop-i-preserved c =
    ap (cells_within c.args.program.now c.args.n (suc (c.args.kind - (c.loop-i._i + 1))) c.in-Some-base.base) c.base_cells-rest.ensures
    ∙ sym (within_next c.args.program.now c.args.n c.args.kind c.loop-i._i c.loop-i.at c.in-Some-base.base (plain_cells c.loop-i.rest.now) c.in-Some.item.now c.loop-i-test.true
    c.in-Some.ensures.value c.in-Some-base.is (sym c.own_ok.ensures ∙ c.if-not-own_ok.false)) ∙ c.loop-i.invariant

pub returns : goal.returns
returns c = c.without_base_ok.ensures ∙ sym (within_end c.args.program.now c.args.n c.args.kind c.loop-i._i c.loop-i.at (plain_cells c.loop-i.rest.now) c.loop-i-test.false) ∙ c.loop-i.invariant
