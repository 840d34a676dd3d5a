use Rattle.std.proofs.Common.{◌-◌, sym, ◌∙◌}
use Rattle.ll_code.proofs.Walks.{begins_here, begins_next, begins_last, begins_end}
use Rattle.ll_code.proofs.check.types.begins_within.Goals as goal

pub returns-then-at-m : goal.returns-then-at-m
returns-then-at-m c = sym (begins_here c.args.structs.now (c.args.n - c.loop-i._i) c.loop-i.at c.args.m c.if-at-m.true) ∙ c.loop-i.invariant

pub returns-in-None : goal.returns-in-None
returns-in-None c = sym (begins_last c.args.structs.now c.args.n c.loop-i._i c.loop-i.at c.args.m c.loop-i-test.true c.if-at-m.false (sym c.in-None.ensures)) ∙ c.loop-i.invariant

pub loop-i-preserved : goal.loop-i-preserved
loop-i-preserved c =
    sym (begins_next c.args.structs.now c.args.n c.loop-i._i c.loop-i.at c.args.m c.in-Some.base c.loop-i-test.true c.if-at-m.false (sym c.in-Some.ensures)) ∙ c.loop-i.invariant

pub returns : goal.returns
returns c = sym (begins_end c.args.structs.now c.args.n c.loop-i._i c.loop-i.at c.args.m c.loop-i-test.false) ∙ c.loop-i.invariant
