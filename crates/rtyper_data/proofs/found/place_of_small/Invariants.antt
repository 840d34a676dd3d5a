use Rattle.std.proofs.Common.{◌≡◌, drop}
use Rattle.rtyper_data.specs.Finding.{small_from}
use Rattle.rtyper_data.proofs.found.place_of_small.Given as goal

abbrev pub invariant-loop-each : goal.invariant-loop-each
invariant-loop-each l = record {
  counted : l.place ≡ l.each-index;
  rest : small_from l.each-index (drop l.each-index l.smalls) l.small ≡ small_from 0 l.smalls l.small;
}
