use Rattle.std.proofs.Common.{◌≡◌, ◌<◌, ◌+◌, ◌++◌, length, drop, subst, sym, arith}
use Rattle.class_desc.specs.Tables.{declared}
use Rattle.ann_layout.specs.Layout as spec
use Rattle.ann_layout.proofs.Rows.{kept_row}
use Rattle.ann_layout.proofs.layout.named_row.Goals as goal

pub loop-place-preserved : goal.loop-place-preserved
loop-place-preserved c =
    let lt : c.loop-place.place < length (declared c.args.classes.now c.args.class) = omega (arith, c.loop-place-test.true, c.attribute_count-place-end.ensures) in (
      omega (arith, c.in_ok-next.ensures, c.loop-place.invariant.0),
      subst (λ n. c.add_name.new.row ++ spec.named_row n (drop (c.loop-place.place + 1) (declared c.args.classes.now c.args.class)) ≡ spec.named_row c.args.next.now (declared c.args.classes.now c.args.class))
          (sym c.in_ok-next.ensures)
          (kept_row (declared c.args.classes.now c.args.class) c.loop-place.place c.loop-place.next c.loop-place.row c.add_name.new.row (spec.named_row c.args.next.now (declared c.args.classes.now c.args.class))
          lt c.loop-place.invariant.1 c.in_ok-add_name.ensures),
    )
