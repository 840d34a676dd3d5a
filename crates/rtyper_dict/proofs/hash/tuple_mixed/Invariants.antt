use Rattle.std.proofs.Common.{◌≡◌, drop}
use Rattle.rtyper_data.specs.Seen.{writing}
use Rattle.rtyper_dict.specs.Hashing.{items_mixed}
use Rattle.rtyper_dict.proofs.hash.tuple_mixed.Given as goal

abbrev pub invariant-loop-field : goal.invariant-loop-field
invariant-loop-field l = record {
  counted : l.i ≡ l.field-index;
  rest : items_mixed l.n l.field-index (drop l.field-index l.fields) (l.h, writing l.found l.body) ≡ items_mixed l.n 0 l.fields (l.initial.h, writing l.initial.found l.initial.body);
}
