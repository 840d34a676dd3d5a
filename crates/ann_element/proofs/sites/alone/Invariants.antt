use Rattle.std.proofs.Common.{◌≡◌}
use Rattle.ann_element.specs.Sites.{below}
use Rattle.ann_element.proofs.sites.alone.Given as goal

abbrev pub invariant-loop-number : goal.invariant-loop-number
invariant-loop-number l = l.leaders.items ≡ below l.number
