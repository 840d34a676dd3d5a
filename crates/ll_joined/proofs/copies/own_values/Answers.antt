use Rattle.std.proofs.Common.{◌+◌, ◌-◌}
use Rattle.csub_tree.specs.declared.tree.COperand.TheVariants.{Var}
use Rattle.ll_joined.specs.Copied.{own_from}
use Rattle.ll_joined.proofs.Steps.{own_next, pushed_one}
use Rattle.ll_joined.proofs.copies.own_values.Goals as goal

pub loop-i-preserved : goal.loop-i-preserved
loop-i-preserved c = pushed_one c.loop-i.values c.push.new.self (own_from c.loop-i.i (c.args.count - c.loop-i.i)) (own_from (c.loop-i.i + 1) (c.args.count - (c.loop-i.i + 1))) (own_from 0 c.args.count) (Var c.loop-i.i) c.in_ok-push.ensures.ok (own_next c.loop-i.i c.args.count c.loop-i-test.true) c.loop-i.invariant
