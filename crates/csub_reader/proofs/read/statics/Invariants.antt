use Rattle.std.proofs.Common.{◌≡◌, ◌+◌, ◌-◌, ◌++◌, length, codes}
use Rattle.csub_tree.specs.Spelling.{numbered, static_text}
use Rattle.csub_text.specs.Read.{begins}
use Rattle.csub_text.specs.ReadFile as pure
use Rattle.csub_reader.specs.Parts.{extended}
use Rattle.csub_reader.proofs.read.statics.Given as goal

abbrev pub invariant-loop-turn : goal.invariant-loop-turn
invariant-loop-turn l = record {
  text : l.initial.bytes ≡ numbered static_text 0 l.items ++ l.bytes;
  reads : pure.parts_while (begins (codes "static ")) pure.static_text (length l.initial.bytes) 0 l.initial.bytes ≡ extended l.items (pure.parts_while (begins (codes "static ")) pure.static_text (l._turn-end - l._turn) (0 + length l.items) l.bytes);
}
