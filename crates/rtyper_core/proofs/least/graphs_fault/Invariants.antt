use Rattle.std.proofs.Common.{◌≡◌, drop}
use Rattle.rtyper_core.specs.Typing.{graphs_fault}
use Rattle.rtyper_core.proofs.least.graphs_fault.Given as goal

abbrev pub invariant-loop-number : goal.invariant-loop-number
invariant-loop-number l = graphs_fault l.facts l.classes l.annotation l.number (drop l.number l.graphs) l.least ≡ graphs_fault l.facts l.classes l.annotation 0 l.graphs l.fn.least
