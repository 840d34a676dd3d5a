use Rattle.std.proofs.Common.{◌≡◌, length}
use Rattle.rpy_token.specs.Scan.{close_indents}
use Rattle.rpy_token.proofs.scan.close_indents.Given as goal

abbrev pub invariant-loop-scan : goal.invariant-loop-scan
invariant-loop-scan l = close_indents l.width l.place l.scan ≡ close_indents l.width l.place l.initial.scan

abbrev pub decreases-loop-scan : goal.decreases-loop-scan
decreases-loop-scan l = length l.scan.indents
