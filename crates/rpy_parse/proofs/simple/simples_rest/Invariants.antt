use Rattle.std.proofs.Common.{◌≡◌, ◌≤◌, length}
use Rattle.rpy_parse.specs.Rows.{reading}
use Rattle.rpy_parse.specs.Shapes.{SimplesRest}
use Rattle.rpy_parse.proofs.simple.simples_rest.Given as goal

abbrev pub invariant-loop-alloc : goal.invariant-loop-alloc
invariant-loop-alloc l = (reading SimplesRest (l.place, l.body) l.tokens ≡ reading SimplesRest (l.place, l.fn.body) l.fn.tokens) × (length l.tokens ≤ length l.fn.tokens)

abbrev pub decreases-loop-alloc : goal.decreases-loop-alloc
decreases-loop-alloc l = length l.tokens
