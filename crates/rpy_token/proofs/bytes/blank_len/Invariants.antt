use Rattle.std.proofs.Common.{◌≡◌, ◌+◌, drop}
use Rattle.rpy_token.specs.Bytes.{blank_len}
use Rattle.rpy_token.proofs.bytes.blank_len.Given as goal

abbrev pub invariant-loop-b : goal.invariant-loop-b
invariant-loop-b l = (l.n ≡ l.b-index) × (blank_len l.bytes ≡ l.n + blank_len (drop l.b-index l.bytes))
