use Rattle.std.proofs.Common.{◌≡◌, ◌++◌, drop}
use Rattle.ann_settled.specs.Read as spec
use Rattle.ann_settled.proofs.read.add_attributes.Given as goal

abbrev pub invariant-loop-entry : goal.invariant-loop-entry
invariant-loop-entry l = l.list ++ spec.attributes_of l.s l.classes l.class (drop l.entry-index l.row) ≡ l.fn.list ++ spec.attributes_of l.s l.classes l.class l.row
