use Rattle.std.proofs.Common.{◌≡◌, ◌++◌, drop}
use Rattle.rtyper_op.specs.Prebuilt.{values_from}
use Rattle.rtyper_data.specs.Seen.{the_around}
use Rattle.rtyper_op.proofs.prebuilt.array_cells.Given as goal

abbrev pub invariant-loop-pair : goal.invariant-loop-pair
invariant-loop-pair l = record {
  given : l.items ++ (values_from (the_around l.around) l.item (drop l.pair-index l.pairs) l.found).0 ≡ (values_from (the_around l.around) l.item l.pairs l.initial.found).0;
  left : (values_from (the_around l.around) l.item (drop l.pair-index l.pairs) l.found).1 ≡ (values_from (the_around l.around) l.item l.pairs l.initial.found).1;
}
