use Rattle.std.proofs.Common.{◌≡◌, [], length}
use Rattle.rpy_first.specs.FirstPath.{body_of}
use Rattle.rpy_first.proofs.reader.body_of.Given as goal

abbrev pub invariant-loop-rest : goal.invariant-loop-rest
invariant-loop-rest l = body_of l.parameter l.statements [] [] ≡ body_of l.parameter l.rest l.lines l.names

abbrev pub decreases-loop-rest : goal.decreases-loop-rest
decreases-loop-rest l = length l.rest
