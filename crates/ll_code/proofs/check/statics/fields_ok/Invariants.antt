use Rattle.std.proofs.Common.{◌≡◌, ◌≤◌, drop, length}
use Rattle.csub_tree.specs.Checked.{plain_cells}
use Rattle.ll_code.specs.Typed.{fields_ok}
use Rattle.ll_code.proofs.check.statics.fields_ok.Given as goal

abbrev pub invariant-loop-i : goal.invariant-loop-i
invariant-loop-i l = record {
  within : l.i ≤ length l.cells;
  same : fields_ok l.program l.n (drop l.i l.kinds) l.items (plain_cells (drop l.i l.cells)) ≡ fields_ok l.program l.n l.kinds l.items (plain_cells l.cells);
}
