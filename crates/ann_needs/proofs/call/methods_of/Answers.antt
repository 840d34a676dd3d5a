use Rattle.std.proofs.Common.{length, arith}
use Rattle.ann_rules.specs.Asks as rule
use Rattle.ann_needs.specs.View as spec
use Rattle.ann_needs.proofs.Counted.{kept}
use Rattle.ann_needs.proofs.call.methods_of.Goals as goal

pub loop-class-preserved : goal.loop-class-preserved
loop-class-preserved c =
    kept (spec.whole c.args.p.now) (spec.assignment c.args.s.now) c.args.«of» c.args.name.now c.loop-class.class (length c.args.p.now.classes.classes)
    c.loop-class.methods c.add_made.new.methods (rule.methods (spec.whole c.args.p.now) (spec.assignment c.args.s.now) c.args.«of» c.args.name.now)
    (omega (arith, c.loop-class-test.true, c.len-class-end.ensures)) c.loop-class.invariant c.in_ok-add_made.ensures
