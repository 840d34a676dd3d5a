use Rattle.std.proofs.Common.{◌≡◌, ◌+◌, drop}
use Rattle.rpy_words.specs.Names.{name_len}
use Rattle.rpy_words.proofs.names.name_len.Given as goal

abbrev pub invariant-loop-b : goal.invariant-loop-b
invariant-loop-b l = (l.n ≡ l.b-index) × (name_len l.bytes ≡ l.n + name_len (drop l.b-index l.bytes))
