use Rattle.std.proofs.Common.{◌≡◌, ◌≤◌, length}
use Rattle.rpy_parse.specs.Rows.{reading}
use Rattle.rpy_parse.specs.Shapes.{SkipBlock}
use Rattle.rpy_parse.proofs.skip.+skip_block.Given as goal

abbrev pub invariant-loop-tokens : goal.invariant-loop-tokens
invariant-loop-tokens l = (reading SkipBlock tt l.tokens ≡ reading SkipBlock tt l.fn.tokens) × (length l.tokens ≤ length l.fn.tokens)

abbrev pub decreases-loop-tokens : goal.decreases-loop-tokens
decreases-loop-tokens l = length l.tokens

abbrev pub decreases-skip_block : goal.decreases-skip_block
decreases-skip_block l = length l.tokens.now
