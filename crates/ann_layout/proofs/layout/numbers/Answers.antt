use Rattle.std.proofs.Common.{arith}
use Rattle.ann_layout.specs.Layout as spec
use Rattle.ann_layout.proofs.Rows.{kept_numbers}
use Rattle.ann_layout.proofs.layout.numbers.Goals as goal

pub loop-place-preserved : goal.loop-place-preserved
loop-place-preserved c = (
  omega (arith, c.in_ok-next.ensures, c.loop-place.invariant.0),
  kept_numbers c.loop-place._place c.args.count c.loop-place.next c.in_ok-next.field-0 c.loop-place.row c.push.new.self (spec.numbers c.args.next.now c.args.count)
      c.loop-place-test.true c.in_ok-next.ensures c.loop-place.invariant.1 c.in_ok-push.ensures.ok,
)
