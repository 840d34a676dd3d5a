use Rattle.std.proofs.Common.{◌≡◌, drop}
use Rattle.rtyper_data.specs.Finding.{need_from}
use Rattle.rtyper_data.proofs.found.place_of_need.Given as goal

abbrev pub invariant-loop-need : goal.invariant-loop-need
invariant-loop-need l = record {
  counted : l.place ≡ l.need-index;
  rest : need_from l.need-index (drop l.need-index l.needs) l.caught l.helper l.covered ≡ need_from 0 l.needs l.caught l.helper l.covered;
}
