use Rattle.std.proofs.Common.{◌≡◌, ◌+◌, drop, pos}
use Rattle.rtyper_op.specs.Mapped.{enter_all}
use Rattle.rtyper_op.proofs.mapped.index_of.Given as goal

abbrev pub invariant-loop-entry : goal.invariant-loop-entry
invariant-loop-entry l = record {
  counted : l.next ≡ pos (l.entry-index + 1);
  rest : enter_all (drop l.entry-index l.entries) (l.entry-index + 1) l.words ≡ enter_all l.entries 1 l.initial.words;
}
