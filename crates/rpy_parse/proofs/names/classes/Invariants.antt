use Rattle.std.proofs.Common.{◌≡◌, ◌≤◌, length}
use Rattle.rpy_parse.specs.Rows.{reading}
use Rattle.rpy_parse.specs.Shapes.{Classes}
use Rattle.rpy_parse.proofs.names.classes.Given as goal

abbrev pub invariant-loop-alloc : goal.invariant-loop-alloc
invariant-loop-alloc l = (reading Classes l.names l.tokens ≡ reading Classes l.fn.names l.fn.tokens) × (length l.tokens ≤ length l.fn.tokens)

abbrev pub decreases-loop-alloc : goal.decreases-loop-alloc
decreases-loop-alloc l = length l.tokens
