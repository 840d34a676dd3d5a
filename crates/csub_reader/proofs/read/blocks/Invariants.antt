use Rattle.std.proofs.Common.{◌≡◌, ◌+◌, ◌-◌, ◌++◌, length, codes, true}
use Rattle.csub_tree.specs.Spelling.{numbered, block_text}
use Rattle.csub_text.specs.Read.{begins}
use Rattle.csub_text.specs.ReadFile as pure
use Rattle.csub_reader.specs.Parts.{extended, none_yet}
use Rattle.csub_reader.proofs.read.blocks.Given as goal

abbrev pub invariant-loop-turn : goal.invariant-loop-turn
invariant-loop-turn l = record {
  text : l.initial.bytes ≡ numbered block_text 0 l.blocks ++ l.bytes;
  reads : pure.some_while (begins (codes "b")) pure.block (length l.initial.bytes) 0 true l.initial.bytes ≡ extended l.blocks (pure.some_while (begins (codes "b")) pure.block (l._turn-end - l._turn) (0 + length l.blocks) (none_yet l.blocks) l.bytes);
}
