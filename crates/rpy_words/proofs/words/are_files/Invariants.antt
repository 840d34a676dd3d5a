use Rattle.std.proofs.Common.{◌≡◌, length}
use Rattle.rpy_words.specs.Command.{are_files}
use Rattle.rpy_words.proofs.words.are_files.Given as goal

abbrev pub invariant-loop-rest : goal.invariant-loop-rest
invariant-loop-rest l = are_files l.rest ≡ are_files l.files

abbrev pub decreases-loop-rest : goal.decreases-loop-rest
decreases-loop-rest l = length l.rest
