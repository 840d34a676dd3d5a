use Rattle.std.proofs.Common.{◌≡◌, drop}
use Rattle.rtyper_layout.specs.Sites.{shapes_in_rows}
use Rattle.rtyper_layout.proofs.shapes.push_all_shapes.Given as goal

abbrev pub invariant-loop-row : goal.invariant-loop-row
invariant-loop-row l = shapes_in_rows l.layout (drop l.row-index l.rows) ≡ shapes_in_rows l.initial.layout l.rows
