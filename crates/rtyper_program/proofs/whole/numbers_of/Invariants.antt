use Rattle.std.proofs.Common.{◌≡◌, ◌++◌, drop}
use Rattle.rtyper_program.specs.Program.{numbers_from}
use Rattle.rtyper_program.specs.Seen.{the_known}
use Rattle.rtyper_program.proofs.whole.numbers_of.Given as goal

abbrev pub invariant-loop-graph : goal.invariant-loop-graph
invariant-loop-graph l = l.numbers ++ numbers_from (the_known l.known).annotation l.next (drop l.graph-index (the_known l.known).graphs) ≡ numbers_from (the_known l.known).annotation l.first (the_known l.known).graphs
