use Rattle.std.proofs.Common.{◌≡◌, ◌++◌, drop}
use Rattle.rtyper_data.specs.Seen.{the_around, the_operands, writing}
use Rattle.rtyper_list.specs.Displays.{items_as}
use Rattle.rtyper_list.proofs.display.items_as.Given as goal

abbrev pub invariant-loop-operand : goal.invariant-loop-operand
invariant-loop-operand l = record {
  given :
      l.items ++ (items_as (the_around l.around) l.kind (the_operands (drop l.operand-index l.args)) (writing l.found l.body)).0
      ≡ (items_as (the_around l.around) l.kind (the_operands l.args) (writing l.initial.found l.initial.body)).0;
  left :
      (items_as (the_around l.around) l.kind (the_operands (drop l.operand-index l.args)) (writing l.found l.body)).1
      ≡ (items_as (the_around l.around) l.kind (the_operands l.args) (writing l.initial.found l.initial.body)).1;
}
