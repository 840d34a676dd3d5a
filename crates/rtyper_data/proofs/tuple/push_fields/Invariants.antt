use Rattle.std.proofs.Common.{◌≡◌, drop}
use Rattle.rtyper_data.specs.Tuples.{set_fields}
use Rattle.rtyper_data.proofs.tuple.push_fields.Given as goal

abbrev pub invariant-loop-part : goal.invariant-loop-part
invariant-loop-part l = record {
  counted : l.i ≡ l.part-index;
  rest : set_fields l.n l.tuple l.part-index (drop l.part-index l.parts) l.body ≡ set_fields l.n l.tuple 0 l.parts l.initial.body;
}
