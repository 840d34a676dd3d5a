use Rattle.std.proofs.Common.{◌||◌, drop, ◌+◌, ap, sym, ◌∙◌}
use Rattle.csub_tree.specs.Statement.{any_unset, operands}
use Rattle.csub_runner.specs.Erased.{erase_all}
use Rattle.csub_runner.proofs.Erasing.{any_step}
use Rattle.csub_runner.proofs.calls.any_unset.Goals as goal

pub returns-then-is_unset : goal.returns-then-is_unset
returns-then-is_unset c =
    sym (c.loop-x.invariant ∙ any_step c.args.vars.now.items c.args.xs.now c.loop-x.x-index _ c.operand.result c.loop-x-test.true c.operand.ensures
    ∙ ap (λ b. b || any_unset (operands (erase_all c.args.vars.now.items) (drop (c.loop-x.x-index + 1) c.args.xs.now))) (sym c.is_unset.ensures ∙ c.if-is_unset.true))

pub loop-x-preserved : goal.loop-x-preserved
loop-x-preserved c =
    c.loop-x.invariant ∙ any_step c.args.vars.now.items c.args.xs.now c.loop-x.x-index _ c.operand.result c.loop-x-test.true c.operand.ensures
    ∙ ap (λ b. b || any_unset (operands (erase_all c.args.vars.now.items) (drop (c.loop-x.x-index + 1) c.args.xs.now))) (sym c.is_unset.ensures ∙ c.if-is_unset.false)
