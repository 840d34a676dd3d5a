use Rattle.std.proofs.Common.{◌≡◌, ◌++◌, drop}
use Rattle.rtyper_data.specs.Seen.{the_around, the_operands, writing}
use Rattle.rtyper_data.specs.Tuples.{parts_from}
use Rattle.rtyper_data.proofs.tuple.parts_of.Given as goal

abbrev pub invariant-loop-operand : goal.invariant-loop-operand
invariant-loop-operand l = record {
  counted : l.i ≡ l.operand-index;
  given :
      l.parts ++ (parts_from (the_around l.around) l.n l.operand-index (the_operands (drop l.operand-index l.args)) (writing l.found l.body)).0
      ≡ (parts_from (the_around l.around) l.n 0 (the_operands l.args) (writing l.initial.found l.initial.body)).0;
  left :
      (parts_from (the_around l.around) l.n l.operand-index (the_operands (drop l.operand-index l.args)) (writing l.found l.body)).1
      ≡ (parts_from (the_around l.around) l.n 0 (the_operands l.args) (writing l.initial.found l.initial.body)).1;
}
