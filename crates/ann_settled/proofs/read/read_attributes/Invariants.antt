use Rattle.std.proofs.Common.{◌≡◌, ◌++◌, drop}
use Rattle.ann_settled.specs.Read as spec
use Rattle.ann_settled.proofs.read.read_attributes.Given as goal

abbrev pub invariant-loop-class : goal.invariant-loop-class
invariant-loop-class l = l.list ++ spec.attributes l.s l.classes l.class (drop l.class l.rows) ≡ spec.attributes l.s l.classes 0 l.rows
