use Rattle.std.proofs.Common.{◌≡◌}
use Rattle.rpy_token.specs.Lines.{with_dedents}
use Rattle.rpy_token.proofs.scan.close_all.Given as goal

abbrev pub invariant-loop-turn : goal.invariant-loop-turn
invariant-loop-turn l = l.scan.found ≡ with_dedents l._turn l.place l.initial.scan.found
