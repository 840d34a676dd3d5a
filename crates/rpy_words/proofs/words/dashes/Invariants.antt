use Rattle.std.proofs.Common.{◌≡◌, ◌+◌, drop}
use Rattle.rpy_words.specs.Command.{dashes}
use Rattle.rpy_words.proofs.words.dashes.Given as goal

abbrev pub invariant-loop-word : goal.invariant-loop-word
invariant-loop-word l = record {
  count : l.n ≡ l.word-index;
  rest : dashes l.words ≡ l.n + dashes (drop l.word-index l.words);
}
