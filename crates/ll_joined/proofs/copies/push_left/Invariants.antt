use Rattle.std.proofs.Common.{◌≡◌, length}
use Rattle.ll_joined.specs.Copied.{left_from, left_in, facts}
use Rattle.ll_joined.proofs.copies.push_left.Given as goal

abbrev pub invariant-loop-rest : goal.invariant-loop-rest
invariant-loop-rest l = left_from (facts l.known) l.number l.block.exit l.rest (left_in l.ops l.copies) ≡ left_from (facts l.known) l.number l.block.exit l.block.ops (left_in l.initial.ops l.initial.copies)

abbrev pub decreases-loop-rest : goal.decreases-loop-rest
decreases-loop-rest l = length l.rest
