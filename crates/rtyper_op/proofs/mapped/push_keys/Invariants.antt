use Rattle.std.proofs.Common.{◌≡◌, ◌++◌, drop}
use Rattle.rtyper_op.specs.Mapped.{key_cells}
use Rattle.rtyper_op.proofs.mapped.push_keys.Given as goal

abbrev pub invariant-loop-entry : goal.invariant-loop-entry
invariant-loop-entry l = l.cells ++ key_cells (drop l.entry-index l.entries) ≡ l.initial.cells ++ key_cells l.entries
