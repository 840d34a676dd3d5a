use Rattle.std.proofs.Common.{◌≡◌, ◌-◌}
use Rattle.rtyper_op.specs.Mapped.{size_from}
use Rattle.rtyper_op.proofs.mapped.doubled.Given as goal

abbrev pub invariant-loop-turn : goal.invariant-loop-turn
invariant-loop-turn l = size_from (l.turns - l.turn) l.size l.least ≡ size_from l.turns l.first l.least
