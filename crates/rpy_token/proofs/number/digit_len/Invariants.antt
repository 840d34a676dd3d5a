use Rattle.std.proofs.Common.{◌≡◌, ◌+◌, drop}
use Rattle.rpy_token.specs.Number.{digit_len}
use Rattle.rpy_token.proofs.number.digit_len.Given as goal

abbrev pub invariant-loop-b : goal.invariant-loop-b
invariant-loop-b l = (l.n ≡ l.b-index) × (digit_len l.base l.bytes ≡ l.n + digit_len l.base (drop l.b-index l.bytes))
