use Rattle.std.proofs.Common.{◌≡◌, ◌++◌, drop}
use Rattle.rtyper_op.specs.Mapped.{value_cells}
use Rattle.rtyper_op.proofs.mapped.push_values.Given as goal

abbrev pub invariant-loop-entry : goal.invariant-loop-entry
invariant-loop-entry l = l.cells ++ value_cells (drop l.entry-index l.entries) ≡ l.initial.cells ++ value_cells l.entries
