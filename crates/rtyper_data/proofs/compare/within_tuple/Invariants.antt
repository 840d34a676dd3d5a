use Rattle.std.proofs.Common.{◌≡◌, drop}
use Rattle.rtyper_data.specs.Comparing.{any_equal}
use Rattle.rtyper_data.specs.Seen.{writing}
use Rattle.rtyper_data.proofs.compare.within_tuple.Given as goal

abbrev pub invariant-loop-field : goal.invariant-loop-field
invariant-loop-field l = record {
  counted : l.i ≡ l.field-index;
  rest :
      any_equal l.around.layout.now l.n l.tuple l.a.x l.s l.field-index (drop l.field-index l.fields) (l.any, writing l.found l.body)
      ≡ any_equal l.around.layout.now l.n l.tuple l.a.x l.s 0 l.fields (l.initial.any, writing l.initial.found l.initial.body);
}
