use Rattle.std.proofs.Common.{◌≡◌, drop, []}
use Rattle.std.specs.Option.{option_copied}
use Rattle.rtyper_op.specs.Calls.{arguments_from}
use Rattle.rtyper_data.specs.Seen.{the_around, the_operands, writing}
use Rattle.rtyper_op.proofs.call.arguments_of.Given as goal

abbrev pub invariant-loop-param : goal.invariant-loop-param
invariant-loop-param l = record {
  counted : l.i ≡ l.param-index;
  rest :
      arguments_from (the_around l.around) (option_copied l.function) (the_operands l.args) l.param-index (drop l.param-index l.params) (l.xs, writing l.found l.body)
      ≡ arguments_from (the_around l.around) (option_copied l.function) (the_operands l.args) 0 l.params ([], writing l.initial.found l.initial.body);
}
