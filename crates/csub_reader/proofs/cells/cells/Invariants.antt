use Rattle.std.proofs.Common.{◌≡◌, ◌-◌, ◌++◌, [], None, length}
use Rattle.csub_text.specs.ReadFile as pure
use Rattle.csub_reader.specs.OpenCells.{open_text, pending_text}
use Rattle.csub_reader.proofs.cells.cells.Given as goal

abbrev pub invariant-loop-turn : goal.invariant-loop-turn
invariant-loop-turn l = record {
  text : l.initial.bytes ≡ open_text l.lists ++ (pending_text l.pending ++ l.bytes);
  reads : pure.turns (length l.initial.bytes) [] None l.initial.bytes ≡ pure.turns (l._turn-end - l._turn) l.lists l.pending l.bytes;
}
