use Rattle.std.proofs.Common.{◌≡◌, drop}
use Rattle.rtyper_data.specs.Graphs.{equal_from}
use Rattle.rtyper_data.specs.Seen.{writing}
use Rattle.rtyper_data.proofs.small.equal_items.Given as goal

abbrev pub invariant-loop-field : goal.invariant-loop-field
invariant-loop-field l = record {
  counted : l.i ≡ l.field-index;
  rest : equal_from l.layout l.m l.n l.those l.field-index (drop l.field-index l.these) (l.all, writing l.found l.body) ≡ equal_from l.layout l.m l.n l.those 0 l.these (l.initial.all, writing l.initial.found l.initial.body);
}
