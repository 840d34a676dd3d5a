use Rattle.std.proofs.Common.{◌≡◌, pos, replicate}
use Rattle.rtyper_op.proofs.mapped.zeros.Given as goal

abbrev pub invariant-loop-filled : goal.invariant-loop-filled
invariant-loop-filled l = l.words ≡ replicate l.filled (pos 0)
