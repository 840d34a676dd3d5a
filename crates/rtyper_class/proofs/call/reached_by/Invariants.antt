use Rattle.std.proofs.Common.{◌≡◌, drop}
use Rattle.rtyper_class.specs.Calls.{reached_from, reached_by}
use Rattle.rtyper_class.specs.Seen.{the_world}
use Rattle.rtyper_class.proofs.call.reached_by.Given as goal

abbrev pub invariant-loop-is_made : goal.invariant-loop-is_made
invariant-loop-is_made l = record {
  counted : l.number ≡ l.is_made-index;
  rest : reached_from (the_world l.around) l.class l.name l.is_made-index (drop l.is_made-index (the_world l.around).made) l.reached ≡ reached_by (the_world l.around) l.class l.name;
}
