use Rattle.std.proofs.Common.{◌≡◌, ◌+◌, ◌-◌, ◌++◌, length, true}
use Rattle.csub_tree.specs.Spelling.{numbered, function_text}
use Rattle.csub_text.specs.ReadFile as pure
use Rattle.csub_reader.specs.Parts.{extended, none_yet}
use Rattle.csub_reader.proofs.read.functions.Given as goal

abbrev pub invariant-loop-turn : goal.invariant-loop-turn
invariant-loop-turn l = record {
  text : l.initial.bytes ≡ numbered function_text 0 l.items ++ l.bytes;
  reads : pure.some_while (pure.sees_more) pure.function (length l.initial.bytes) 0 true l.initial.bytes ≡ extended l.items (pure.some_while (pure.sees_more) pure.function (l._turn-end - l._turn) (0 + length l.items) (none_yet l.items) l.bytes);
}
