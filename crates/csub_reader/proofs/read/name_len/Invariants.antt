use Rattle.std.proofs.Common.{◌≡◌, ◌+◌, drop}
use Rattle.csub_text.specs.ReadFile.{name_len}
use Rattle.csub_reader.proofs.read.name_len.Given as goal

abbrev pub invariant-loop-b : goal.invariant-loop-b
invariant-loop-b l = (l.n ≡ l.b-index) × (name_len l.bytes ≡ l.n + name_len (drop l.b-index l.bytes))
