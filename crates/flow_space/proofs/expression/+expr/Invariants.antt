use Rattle.std.proofs.Common.{◌+◌, ◌*◌}
use Rattle.std.specs.Option.{option_map_or}
use Rattle.rpy_resolved.specs.Size.{expr_size, subject_size, target_size, exprs_size, pairs_size, targets_size}
use Rattle.flow_space.proofs.expression.+expr.Given as goal

-- Each call has a smaller tree, or the same and a lower rank.
abbrev pub decreases-put_expr : goal.decreases-put_expr
decreases-put_expr l = 16 * expr_size l.e.now

abbrev pub decreases-put_exprs : goal.decreases-put_exprs
decreases-put_exprs l = 16 * exprs_size l.es.now + 1

abbrev pub decreases-put_apply : goal.decreases-put_apply
decreases-put_apply l = 16 * exprs_size l.es.now + 4

abbrev pub decreases-put_operation : goal.decreases-put_operation
decreases-put_operation l = 16 * exprs_size l.es.now + 3

abbrev pub decreases-put_not : goal.decreases-put_not
decreases-put_not l = 16 * expr_size l.a.now + 8

abbrev pub decreases-put_logic : goal.decreases-put_logic
decreases-put_logic l = 16 * (expr_size l.a.now + expr_size l.b.now) + 6

abbrev pub decreases-put_test : goal.decreases-put_test
decreases-put_test l = 16 * expr_size l.e.now + 7

abbrev pub decreases-put_branches : goal.decreases-put_branches
decreases-put_branches l = 16 * expr_size l.e.now + 6

abbrev pub decreases-put_simple : goal.decreases-put_simple
decreases-put_simple l = 16 * expr_size l.e.now + 5

abbrev pub decreases-put_beside : goal.decreases-put_beside
decreases-put_beside l = 16 * expr_size l.e.now + 4

abbrev pub decreases-put_whole : goal.decreases-put_whole
decreases-put_whole l = 16 * expr_size l.e.now + 1

abbrev pub decreases-put_sides : goal.decreases-put_sides
decreases-put_sides l = 16 * exprs_size l.es.now + 3

abbrev pub decreases-put_display : goal.decreases-put_display
decreases-put_display l = 16 * pairs_size l.pairs.now + 3

abbrev pub decreases-put_pairs : goal.decreases-put_pairs
decreases-put_pairs l = 16 * pairs_size l.pairs.now + 2

abbrev pub decreases-put_pair : goal.decreases-put_pair
decreases-put_pair l = 16 * (expr_size l.pair.now.0 + expr_size l.pair.now.1) + 1

abbrev pub decreases-put_subject : goal.decreases-put_subject
decreases-put_subject l = 16 * subject_size l.subject.now

abbrev pub decreases-put_second : goal.decreases-put_second
decreases-put_second l = 16 * expr_size l.e.now + 1

abbrev pub decreases-put_gather : goal.decreases-put_gather
decreases-put_gather l = 16 * (expr_size l.item.now + option_map_or expr_size l.condition.now 0) + 8

abbrev pub decreases-put_comprehension : goal.decreases-put_comprehension
decreases-put_comprehension l = 16 * (expr_size l.item.now + target_size l.target.now + subject_size l.subject.now + option_map_or expr_size l.condition.now 0) + 9

abbrev pub decreases-put_bind : goal.decreases-put_bind
decreases-put_bind l = 16 * target_size l.target.now + 1

abbrev pub decreases-put_take : goal.decreases-put_take
decreases-put_take l = 16 * target_size l.target.now

abbrev pub decreases-put_item : goal.decreases-put_item
decreases-put_item l = 16 * (expr_size l.a.now + expr_size l.i.now) + 1

abbrev pub decreases-put_parts : goal.decreases-put_parts
decreases-put_parts l = 16 * targets_size l.parts.now + 3

abbrev pub decreases-put_items : goal.decreases-put_items
decreases-put_items l = 16 * targets_size l.parts.now + 2
