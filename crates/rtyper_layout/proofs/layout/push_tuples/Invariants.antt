use Rattle.std.proofs.Common.{◌≡◌, ◌++◌, drop}
use Rattle.rtyper_layout.specs.Layout.{all_tuples}
use Rattle.rtyper_layout.proofs.layout.push_tuples.Given as goal

abbrev pub invariant-loop-shape : goal.invariant-loop-shape
invariant-loop-shape l = l.structs ++ all_tuples (drop l.shape-index l.shapes) ≡ l.initial.structs ++ all_tuples l.shapes
