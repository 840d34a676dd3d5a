use Rattle.std.proofs.Common.{◌≡◌, take, map}
use Rattle.flow_space.proofs.Parts.{hand_pair}
use Rattle.flow_space.proofs.code.hand_links.Given as goal

abbrev pub invariant-loop-hand : goal.invariant-loop-hand
invariant-loop-hand l = l.links ≡ map (hand_pair l.base l.place) (take l.hand-index l.hands)
