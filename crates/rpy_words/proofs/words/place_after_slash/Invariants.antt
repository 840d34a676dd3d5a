use Rattle.std.proofs.Common.{◌≡◌, ◌≤◌, drop}
use Rattle.rpy_words.specs.Command.{place_after_slash}
use Rattle.rpy_words.proofs.words.place_after_slash.Given as goal

abbrev pub invariant-loop-i : goal.invariant-loop-i
invariant-loop-i l = record {
  within : l.place ≤ l.i;
  rest : place_after_slash l.place l.i (drop l.i l.file) ≡ place_after_slash 0 0 l.file;
}
