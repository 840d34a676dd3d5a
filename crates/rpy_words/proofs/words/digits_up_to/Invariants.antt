use Rattle.std.proofs.Common.{◌≡◌, ◌≤◌, drop}
use Rattle.rpy_words.specs.Command.{digits_up_to}
use Rattle.rpy_words.proofs.words.digits_up_to.Given as goal

abbrev pub invariant-loop-b : goal.invariant-loop-b
invariant-loop-b l = record {
  small : l.n ≤ l.most;
  rest : digits_up_to l.most l.n (drop l.b-index l.bytes) ≡ digits_up_to l.most 0 l.bytes;
}
