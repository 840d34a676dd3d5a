use Rattle.std.proofs.Common.{◌≡◌, ◌++◌, drop, map}
use Rattle.rtyper_op.specs.Mapped.{index_cells, word_cell}
use Rattle.rtyper_op.proofs.mapped.push_index.Given as goal

abbrev pub invariant-loop-word : goal.invariant-loop-word
invariant-loop-word l = l.cells ++ map word_cell (drop l.word-index l.word-items) ≡ l.initial.cells ++ index_cells l.entries
