use Rattle.std.proofs.Common.{◌≡◌, ◌++◌, take}
use Rattle.flow_space.proofs.statement.copy_hands.Given as goal

abbrev pub invariant-loop-hand : goal.invariant-loop-hand
invariant-loop-hand l = l.hands ≡ l.fn.hands ++ take l.hand-index l.around
