use Rattle.std.proofs.Common.{◌≡◌, ◌-◌, length}
use Rattle.rtyper_op.specs.Mapped.{enter_from}
use Rattle.rtyper_op.proofs.mapped.enter.Given as goal

abbrev pub invariant-loop-turn : goal.invariant-loop-turn
invariant-loop-turn l = record {
  same : l.words ≡ l.initial.words;
  rest : enter_from (l.size - l.turn) l.at l.word l.words ≡ enter_from l.size l.initial.at l.word l.initial.words;
}
