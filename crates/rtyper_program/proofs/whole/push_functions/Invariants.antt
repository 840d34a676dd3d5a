use Rattle.std.proofs.Common.{◌≡◌, drop}
use Rattle.rtyper_class.specs.Seen.{the_world}
use Rattle.rtyper_program.specs.Program.{functions_from}
use Rattle.rtyper_program.specs.Seen.{the_known}
use Rattle.rtyper_program.proofs.whole.push_functions.Given as goal

abbrev pub invariant-loop-graph : goal.invariant-loop-graph
invariant-loop-graph l = record {
  counted : l.i ≡ l.graph-index;
  rest :
      functions_from (the_known l.known) (the_world l.around) l.graph-index (drop l.graph-index (the_known l.known).graphs) (l.into, l.found)
      ≡ functions_from (the_known l.known) (the_world l.around) 0 (the_known l.known).graphs (l.initial.into, l.initial.found);
}
