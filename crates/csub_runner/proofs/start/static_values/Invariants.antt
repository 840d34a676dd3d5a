use Rattle.std.proofs.Common.{◌≡◌, ◌++◌, map}
use Rattle.csub_tree.specs.Layout.{joined, cell_constants}
use Rattle.csub_runner.specs.Erased.{raw_constant}
use Rattle.csub_runner.proofs.Cells.{pending, load}
use Rattle.csub_runner.proofs.start.static_values.Given as goal

abbrev pub invariant-loop-cells : goal.invariant-loop-cells
invariant-loop-cells l = l.values.items ++ map raw_constant (pending l.waiting.items) ≡ map raw_constant (joined (map cell_constants l.fn.cells))

abbrev pub decreases-loop-cells : goal.decreases-loop-cells
decreases-loop-cells l = load l.waiting.items
