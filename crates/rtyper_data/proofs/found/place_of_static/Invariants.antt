use Rattle.std.proofs.Common.{◌≡◌, drop}
use Rattle.rtyper_data.specs.Finding.{static_from}
use Rattle.rtyper_data.proofs.found.place_of_static.Given as goal

abbrev pub invariant-loop-each : goal.invariant-loop-each
invariant-loop-each l = record {
  counted : l.place ≡ l.each-index;
  rest : static_from l.each-index (drop l.each-index l.statics) l.kind l.cells ≡ static_from 0 l.statics l.kind l.cells;
}
