use Rattle.std.proofs.Common.{◌≡◌, ◌-◌}
use Rattle.rpy_token.specs.Scan.{token_list, run}
use Rattle.rpy_token.proofs.scan.token_list.Given as goal

abbrev pub invariant-loop-turn : goal.invariant-loop-turn
invariant-loop-turn l = token_list l.source ≡ run (l._turn-end - l._turn) l.place l.scan
