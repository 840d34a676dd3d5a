use Rattle.std.proofs.Common.{◌≡◌, map, take, drop, ◌++◌}
use Rattle.ann_element.specs.Sites.{collapse}
use Rattle.ann_element.proofs.sites.unite_leaders.Given as goal

abbrev pub invariant-loop-leader : goal.invariant-loop-leader
invariant-loop-leader l = (l.leaders ≡ map (collapse l.p l.q) (take l.leader-index l.fn.leaders) ++ drop l.leader-index l.fn.leaders)
