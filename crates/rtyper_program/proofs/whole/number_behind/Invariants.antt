use Rattle.std.proofs.Common.{◌≡◌, drop}
use Rattle.rtyper_program.specs.Program.{number_behind}
use Rattle.rtyper_program.specs.Seen.{the_known}
use Rattle.rtyper_program.proofs.whole.number_behind.Given as goal

abbrev pub invariant-loop-graph : goal.invariant-loop-graph
invariant-loop-graph l = number_behind (the_known l.known).annotation l.next (drop l.graph-index (the_known l.known).graphs) ≡ number_behind (the_known l.known).annotation l.first (the_known l.known).graphs
