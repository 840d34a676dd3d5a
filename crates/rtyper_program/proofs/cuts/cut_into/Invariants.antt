use Rattle.std.proofs.Common.{◌≡◌, length}
use Rattle.rtyper_program.specs.Cuts.{cut_into}
use Rattle.rtyper_program.proofs.cuts.cut_into.Given as goal

abbrev pub invariant-loop-ops : goal.invariant-loop-ops
invariant-loop-ops l = cut_into l.v l.by l.left (l.next, l.extra) l.body ≡ cut_into l.v l.by l.initial.left (l.initial.next, l.initial.extra) l.initial.body

abbrev pub decreases-loop-ops : goal.decreases-loop-ops
decreases-loop-ops l = length l.left
