use Rattle.std.proofs.Common.{◌≡◌, ◌++◌, [], length}
use Rattle.refcount_transform.specs.Made as m
use Rattle.refcount_transform.proofs.made.push_gets.Given as goal

abbrev pub invariant-loop-rest : goal.invariant-loop-rest
invariant-loop-rest l = l.into ++ m.gets l.v l.rest [] ≡ l.initial.into ++ m.gets 1 l.held []

abbrev pub decreases-loop-rest : goal.decreases-loop-rest
decreases-loop-rest l = length l.rest
