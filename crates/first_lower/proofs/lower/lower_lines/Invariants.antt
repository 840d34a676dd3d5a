use Rattle.std.proofs.Common.{◌≡◌, ◌++◌, drop}
use Rattle.first_lower.specs.Lower.{lines_code, place_in}
use Rattle.first_lower.proofs.lower.lower_lines.Given as goal

abbrev pub invariant-loop-line : goal.invariant-loop-line
invariant-loop-line l = record {
  statements : l.into ++ (lines_code (drop l.line-index l.line-items) l.body.result l.free).statements
      ≡ l.initial.into ++ (lines_code l.line-items l.body.result l.body.locals).statements;
  place : place_in (lines_code (drop l.line-index l.line-items) l.body.result l.free) ≡ place_in (lines_code l.line-items l.body.result l.body.locals);
}
