use Rattle.std.proofs.Common.{◌≡◌, ◌+◌, ◌-◌, ◌++◌, length}
use Rattle.csub_tree.specs.Spelling.{numbered, field_line}
use Rattle.csub_text.specs.ReadFile as pure
use Rattle.csub_reader.specs.Parts.{extended}
use Rattle.csub_reader.proofs.parts.field_lines.Given as goal

abbrev pub invariant-loop-turn : goal.invariant-loop-turn
invariant-loop-turn l = record {
  text : l.initial.bytes ≡ numbered field_line l.first l.kinds ++ l.bytes;
  reads : pure.parts_while (pure.sees_field_line) pure.field_line (length l.initial.bytes) l.first l.initial.bytes ≡ extended l.kinds (pure.parts_while (pure.sees_field_line) pure.field_line (l._turn-end - l._turn) (l.first + length l.kinds) l.bytes);
}
