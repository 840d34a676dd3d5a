use Rattle.std.proofs.Common.{◌≡◌, ◌++◌, drop}
use Rattle.rtyper_data.specs.Graphs.{cast_from}
use Rattle.rtyper_data.specs.Seen.{writing}
use Rattle.rtyper_data.proofs.small.cast_items.Given as goal

abbrev pub invariant-loop-field : goal.invariant-loop-field
invariant-loop-field l = record {
  counted : l.i ≡ l.field-index;
  given : l.items ++ (cast_from l.layout l.m l.to l.field-index (drop l.field-index l.from) (writing l.found l.body)).0 ≡ (cast_from l.layout l.m l.to 0 l.from (writing l.initial.found l.initial.body)).0;
  left : (cast_from l.layout l.m l.to l.field-index (drop l.field-index l.from) (writing l.found l.body)).1 ≡ (cast_from l.layout l.m l.to 0 l.from (writing l.initial.found l.initial.body)).1;
}
