use Rattle.std.proofs.Common.{◌≡◌, drop}
use Rattle.csub_tree.specs.Checked.{plain_cells}
use Rattle.ll_code.specs.Typed.{all_plain}
use Rattle.ll_code.proofs.check.statics.all_plain.Given as goal

abbrev pub invariant-loop-cell : goal.invariant-loop-cell
invariant-loop-cell l = all_plain l.program l.n l.kind (plain_cells (drop l.cell-index l.cells)) ≡ all_plain l.program l.n l.kind (plain_cells l.cells)
