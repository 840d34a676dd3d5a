use Rattle.std.proofs.Common.{◌≡◌, ◌+◌, ◌-◌, ◌++◌, length}
use Rattle.ann_layout.specs.Layout as spec
use Rattle.ann_layout.proofs.layout.named_rows.Given as goal

abbrev pub invariant-loop-class : goal.invariant-loop-class
invariant-loop-class l = (l.next + spec.declared_count l.classes l.class (length l.classes.classes - l.class) ≡ l.fn.next + spec.declared_count l.classes 0 (length l.classes.classes)) × (l.all ++ spec.named_rows l.classes l.next l.class (length l.classes.classes - l.class) ≡ spec.named_rows l.classes l.fn.next 0 (length l.classes.classes))
