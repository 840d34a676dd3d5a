use Rattle.std.proofs.Common.{◌≡◌, ◌+◌, ◌-◌, ◌++◌, ◌<◌, length, subst, sym, arith}
use Rattle.class_desc.specs.Tables.{declared}
use Rattle.ann_layout.specs.Layout as spec
use Rattle.ann_layout.proofs.Rows.{kept_rows, kept_count}
use Rattle.ann_layout.proofs.layout.named_rows.Goals as goal

pub loop-class-preserved : goal.loop-class-preserved
loop-class-preserved c =
    let lt : c.loop-class.class < length c.args.classes.now.classes = omega (arith, c.loop-class-test.true, c.len-class-end.ensures) in (
      subst (λ n. n + spec.declared_count c.args.classes.now (c.loop-class.class + 1) (length c.args.classes.now.classes - (c.loop-class.class + 1)) ≡ c.args.next.now + spec.declared_count c.args.classes.now 0 (length c.args.classes.now.classes))
          (sym c.in_ok-add_row.ensures.after)
          (kept_count c.args.classes.now c.loop-class.class (length c.args.classes.now.classes) c.loop-class.next (c.args.next.now + spec.declared_count c.args.classes.now 0 (length c.args.classes.now.classes)) lt c.loop-class.invariant.0),
      subst (λ n. c.add_row.new.all ++ spec.named_rows c.args.classes.now n (c.loop-class.class + 1) (length c.args.classes.now.classes - (c.loop-class.class + 1)) ≡ spec.named_rows c.args.classes.now c.args.next.now 0 (length c.args.classes.now.classes))
          (sym c.in_ok-add_row.ensures.after)
          (kept_rows c.args.classes.now c.loop-class.class (length c.args.classes.now.classes) c.loop-class.next c.loop-class.all c.add_row.new.all (spec.named_rows c.args.classes.now c.args.next.now 0 (length c.args.classes.now.classes)) lt c.loop-class.invariant.1 c.in_ok-add_row.ensures.rows),
    )
