use Rattle.std.proofs.Common.{◌≡◌}
use Rattle.rpy_names.specs.Uses.{no_uses}
use Rattle.rpy_names.proofs.uses.no_uses.Given as goal

abbrev pub invariant-loop-node : goal.invariant-loop-node
invariant-loop-node l = l.uses ≡ no_uses l._node
