use Rattle.std.proofs.Common.{◌≡◌, drop}
use Rattle.rtyper_program.specs.Raises.{graphs_raise, raises}
use Rattle.rtyper_program.specs.Seen.{the_known}
use Rattle.rtyper_program.proofs.raising.raises.Given as goal

abbrev pub invariant-loop-graph : goal.invariant-loop-graph
invariant-loop-graph l = record {
  counted : l.i ≡ l.graph-index;
  rest : graphs_raise (the_known l.known).annotation l.graph-index (drop l.graph-index (the_known l.known).graphs) ≡ raises (the_known l.known);
}
