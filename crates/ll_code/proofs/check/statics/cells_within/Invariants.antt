use Rattle.std.proofs.Common.{◌≡◌, ◌-◌, suc}
use Rattle.csub_tree.specs.Checked.{plain_cells}
use Rattle.ll_code.specs.Typed.{cells_within}
use Rattle.ll_code.proofs.check.statics.cells_within.Given as goal

abbrev pub invariant-loop-i : goal.invariant-loop-i
invariant-loop-i l = cells_within l.program l.n (suc (l.kind - l._i)) l.at (plain_cells l.rest) ≡ cells_within l.program l.n (suc l.kind) l.kind (plain_cells l.cells)
