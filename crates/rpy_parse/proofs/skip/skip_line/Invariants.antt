use Rattle.std.proofs.Common.{◌≡◌, ◌≤◌, length}
use Rattle.rpy_parse.specs.Rows.{reading}
use Rattle.rpy_parse.specs.Shapes.{SkipLine}
use Rattle.rpy_parse.proofs.skip.skip_line.Given as goal

abbrev pub invariant-loop-tokens : goal.invariant-loop-tokens
invariant-loop-tokens l = (reading SkipLine tt l.tokens ≡ reading SkipLine tt l.fn.tokens) × (length l.tokens ≤ length l.fn.tokens)

abbrev pub decreases-loop-tokens : goal.decreases-loop-tokens
decreases-loop-tokens l = length l.tokens
