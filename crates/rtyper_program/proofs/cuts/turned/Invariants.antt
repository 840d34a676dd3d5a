use Rattle.std.proofs.Common.{◌≡◌, ◌++◌, reverse, length}
use Rattle.rtyper_program.proofs.cuts.turned.Given as goal

abbrev pub invariant-loop-op : goal.invariant-loop-op
invariant-loop-op l = l.made ++ reverse l.left ≡ reverse l.initial.left

abbrev pub decreases-loop-op : goal.decreases-loop-op
decreases-loop-op l = length l.left
