use Rattle.std.proofs.Common.{◌+◌, ◌*◌}
use Rattle.std.specs.Option.{option_map_or}
use Rattle.rpy_resolved.specs.Size.{expr_size, subject_size, target_size, exprs_size, pairs_size, targets_size}
use Rattle.flow_space.proofs.narrow.+binds.Given as goal

-- Each call has a smaller tree, or the same and a lower rank.
abbrev pub decreases-binds : goal.decreases-binds
decreases-binds l = 4 * expr_size l.e.now

abbrev pub decreases-some_binds : goal.decreases-some_binds
decreases-some_binds l = 4 * exprs_size l.es.now + 1

abbrev pub decreases-pairs_bind : goal.decreases-pairs_bind
decreases-pairs_bind l = 4 * pairs_size l.pairs.now + 1

abbrev pub decreases-subject_binds : goal.decreases-subject_binds
decreases-subject_binds l = 4 * subject_size l.subject.now

abbrev pub decreases-condition_binds : goal.decreases-condition_binds
decreases-condition_binds l = 4 * option_map_or expr_size l.condition.now 0 + 1

abbrev pub decreases-target_binds : goal.decreases-target_binds
decreases-target_binds l = 4 * target_size l.target.now

abbrev pub decreases-parts_bind : goal.decreases-parts_bind
decreases-parts_bind l = 4 * targets_size l.parts.now + 1
