use Rattle.std.proofs.Common.{length}
use Rattle.csub_text.specs.Lines.{LeadsTo}
use Rattle.csub_reader.proofs.lines.dead_line.Given as goal

abbrev pub invariant-loop-rest : goal.invariant-loop-rest
invariant-loop-rest l = LeadsTo l.text l.rest l.at l.lines

abbrev pub decreases-loop-rest : goal.decreases-loop-rest
decreases-loop-rest l = length l.rest
