use Rattle.std.proofs.Common.{◌≡◌, [], drop}
use Rattle.rtyper_data.specs.Seen.{writing}
use Rattle.rtyper_program.specs.Links.{arguments}
use Rattle.rtyper_program.specs.Seen.{the_lowered}
use Rattle.rtyper_program.proofs.links.arguments.Given as goal

abbrev pub invariant-loop-v : goal.invariant-loop-v
invariant-loop-v l = record {
  counted : l.i ≡ l.v-index;
  rest :
      arguments (the_lowered l.lowered) l.caught l.args l.v-index (drop l.v-index l.inputs) (l.xs, writing l.found l.body)
      ≡ arguments (the_lowered l.lowered) l.caught l.args 0 l.inputs ([], writing l.initial.found l.initial.body);
}
