use Rattle.std.proofs.Common.{◌≡◌, ◌-◌}
use Rattle.rpy_token.specs.Quoted.{body, body_from}
use Rattle.rpy_token.proofs.quoted.body.Given as goal

abbrev pub invariant-loop-turn : goal.invariant-loop-turn
invariant-loop-turn l = body l.form l.size l.start l.bytes ≡ body_from (l._turn-end - l._turn) l.form l.size l.start l.found l.rest
