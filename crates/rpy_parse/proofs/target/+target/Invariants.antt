use Rattle.std.proofs.Common.{◌≡◌, ◌+◌, ◌*◌, ◌≤◌, ◌++◌, length, map, reverse}
use Rattle.std.specs.Prelude.{sum_by}
use Rattle.rpy_parse.specs.Build.{goal_of}
use Rattle.rpy_parse.specs.Target.{size}
use Rattle.rpy_parse.proofs.target.+target.Given as goal

abbrev pub invariant-targets_of-loop-tree : goal.invariant-targets_of-loop-tree
invariant-targets_of-loop-tree l = (sum_by size l.trees ≤ sum_by size l.fn.trees) × (l.targets ++ map goal_of (reverse l.trees) ≡ map goal_of l.fn.trees)

abbrev pub decreases-targets_of-loop-tree : goal.decreases-targets_of-loop-tree
decreases-targets_of-loop-tree l = length l.trees

-- Each call has a smaller tree, or as small a one and a lower rank.
abbrev pub decreases-target_of : goal.decreases-target_of
decreases-target_of l = 2 * size l.tree

abbrev pub decreases-targets_of : goal.decreases-targets_of
decreases-targets_of l = 2 * sum_by size l.trees + 1
