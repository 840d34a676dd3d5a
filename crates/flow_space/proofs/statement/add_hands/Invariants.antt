use Rattle.std.proofs.Common.{◌≡◌, map, take}
use Rattle.flow_space.proofs.Hands.{hand_for}
use Rattle.flow_space.proofs.statement.add_hands.Given as goal

abbrev pub invariant-loop-class : goal.invariant-loop-class
invariant-loop-class l = l.hands ≡ map (hand_for l.local l.aim) (take l.class-index l.classes)
