use Rattle.std.proofs.Common.{◌≡◌, ◌++◌, drop, map}
use Rattle.refcount_transform.specs.Counted as spec
use Rattle.refcount_transform.specs.Seen.{the_plan}
use Rattle.refcount_transform.proofs.counted.+cell.Given as goal

abbrev pub invariant-push_cells-loop-cell : goal.invariant-push_cells-loop-cell
invariant-push_cells-loop-cell l = l.into ++ spec.as_they_are (map (spec.counted_cell (the_plan l.plan)) (drop l.cell-index l.cells)) ≡ l.initial.into ++ spec.as_they_are (map (spec.counted_cell (the_plan l.plan)) l.cells)
