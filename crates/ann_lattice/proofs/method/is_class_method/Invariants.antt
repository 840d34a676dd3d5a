use Rattle.std.proofs.Common.{◌≡◌, ◌-◌, length}
use Rattle.std.specs.Prelude.{min}
use Rattle.ann_lattice.specs.Methods.{some_method, is_class_method}
use Rattle.ann_lattice.proofs.method.is_class_method.Given as goal

abbrev pub invariant-loop-class : goal.invariant-loop-class
invariant-loop-class l = some_method l.classes.classes l.name l.class (l.count - l.class) ≡ is_class_method l.fn.classes.classes l.fn.name
