use Rattle.std.proofs.Common.{◌≡◌, ◌+◌, drop}
use Rattle.csub_text.specs.Lines.{line_len}
use Rattle.csub_reader.proofs.lines.line_len.Given as goal

abbrev pub invariant-loop-b : goal.invariant-loop-b
invariant-loop-b l = (l.n ≡ l.b-index) × (line_len l.bytes ≡ l.n + line_len (drop l.b-index l.bytes))
