use Rattle.std.proofs.Common.{◌≡◌, ◌≤◌, length}
use Rattle.rpy_parse.specs.Shapes.{Strings}
use Rattle.rpy_parse.specs.Rows.{reading}
use Rattle.rpy_parse.proofs.atom.strings.Given as goal

abbrev pub invariant-loop-more : goal.invariant-loop-more
invariant-loop-more l = (length l.tokens ≤ length l.fn.tokens) × (reading Strings l.fn.text l.fn.tokens ≡ reading Strings l.text l.tokens)

abbrev pub decreases-loop-more : goal.decreases-loop-more
decreases-loop-more l = length l.tokens
