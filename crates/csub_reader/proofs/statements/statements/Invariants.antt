use Rattle.std.proofs.Common.{◌≡◌, ◌-◌, ◌++◌, length}
use Rattle.std.specs.List.{flat_map}
use Rattle.csub_tree.specs.Spelling.{statement_line}
use Rattle.csub_text.specs.ReadFile as pure
use Rattle.csub_reader.specs.Parts.{extended}
use Rattle.csub_reader.proofs.statements.statements.Given as goal

abbrev pub invariant-loop-turn : goal.invariant-loop-turn
invariant-loop-turn l = record {
  text : l.initial.bytes ≡ flat_map statement_line l.stmts ++ l.bytes;
  reads : pure.statements (length l.initial.bytes) l.initial.bytes ≡ extended l.stmts (pure.statements (l._turn-end - l._turn) l.bytes);
}
