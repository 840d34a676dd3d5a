use Rattle.std.proofs.Common.{◌≡◌, drop}
use Rattle.csub_text.specs.Text.{has_line}
use Rattle.csub_reader.proofs.lines.has_line.Given as goal

abbrev pub invariant-loop-b : goal.invariant-loop-b
invariant-loop-b l = has_line l.bytes ≡ has_line (drop l.b-index l.bytes)
