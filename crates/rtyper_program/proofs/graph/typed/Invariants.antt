use Rattle.std.proofs.Common.{◌≡◌, ◌++◌, drop}
use Rattle.rtyper_program.specs.Graphs.{typed_from}
use Rattle.rtyper_program.proofs.graph.typed.Given as goal

abbrev pub invariant-loop-element : goal.invariant-loop-element
invariant-loop-element l = record {
  counted : l.i ≡ l.element-index;
  given : l.variables ++ typed_from l.layout l.element-index (drop l.element-index l.elements) ≡ typed_from l.layout 0 l.elements;
}
