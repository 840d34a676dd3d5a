use Rattle.std.proofs.Common.{◌≡◌, [], drop}
use Rattle.rtyper_op.specs.Mapped.{entries_from}
use Rattle.rtyper_data.specs.Seen.{the_around}
use Rattle.rtyper_op.proofs.mapped.entries_of.Given as goal

abbrev pub invariant-loop-pair : goal.invariant-loop-pair
invariant-loop-pair l = entries_from (the_around l.around) l.mapping (drop l.pair-index l.pairs) (l.entries, l.found) ≡ entries_from (the_around l.around) l.mapping l.pairs ([], l.initial.found)
