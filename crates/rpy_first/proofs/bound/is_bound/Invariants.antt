use Rattle.std.proofs.Common.{◌≡◌, ◌≤◌, drop}
use Rattle.rpy_first.specs.Program.{is_bound, lines_ok}
use Rattle.rpy_first.proofs.bound.is_bound.Given as goal

abbrev pub invariant-loop-line : goal.invariant-loop-line
invariant-loop-line l = record {
  few : l.k ≤ l.line-index;
  rest : lines_ok l.k (drop l.line-index l.line-items) l.body.result l.body.locals ≡ is_bound l.body;
}
