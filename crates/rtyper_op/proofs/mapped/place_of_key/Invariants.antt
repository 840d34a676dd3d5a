use Rattle.std.proofs.Common.{◌≡◌, drop}
use Rattle.rtyper_op.specs.Mapped.{key_from}
use Rattle.rtyper_op.proofs.mapped.place_of_key.Given as goal

abbrev pub invariant-loop-entry : goal.invariant-loop-entry
invariant-loop-entry l = record {
  counted : l.place ≡ l.entry-index;
  rest : key_from l.entry-index (drop l.entry-index l.entries) l.key ≡ key_from 0 l.entries l.key;
}
