use Rattle.std.proofs.Common.{◌≡◌, ◌++◌, drop}
use Rattle.rtyper_program.specs.Graphs.{types_of}
use Rattle.rtyper_program.proofs.graph.types_of.Given as goal

abbrev pub invariant-loop-element : goal.invariant-loop-element
invariant-loop-element l = l.types ++ types_of l.layout (drop l.element-index l.elements) ≡ types_of l.layout l.elements
