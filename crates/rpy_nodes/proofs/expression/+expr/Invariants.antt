use Rattle.std.proofs.Common.{◌≡◌, ◌+◌, ◌*◌, drop}
use Rattle.std.specs.Prelude.{sum_by}
use Rattle.std.specs.Option.{option_map_or}
use Rattle.rpy_tree.specs.Size.{expr_nodes, target_nodes}
use Rattle.rpy_nodes.specs.Walk.{exprs, targets, pairs}
use Rattle.rpy_nodes.proofs.expression.+expr.Given as goal

-- The rest of the parts gives what all of them give.
abbrev pub invariant-walk_exprs-loop-e : goal.invariant-walk_exprs-loop-e
invariant-walk_exprs-loop-e l = exprs (drop l.e-index l.es) l.walk ≡ exprs l.es l.fn.walk

abbrev pub invariant-walk_pairs-loop-pair : goal.invariant-walk_pairs-loop-pair
invariant-walk_pairs-loop-pair l = pairs (drop l.pair-index l.pairs) l.walk ≡ pairs l.pairs l.fn.walk

abbrev pub invariant-walk_targets-loop-target : goal.invariant-walk_targets-loop-target
invariant-walk_targets-loop-target l = targets (drop l.target-index l.targets) l.walk ≡ targets l.targets l.fn.walk

-- Each call has fewer nodes, or as many and a lower rank.
abbrev pub decreases-walk_expr : goal.decreases-walk_expr
decreases-walk_expr l = 3 * expr_nodes l.e.now

abbrev pub decreases-walk_target : goal.decreases-walk_target
decreases-walk_target l = 3 * target_nodes l.target.now

abbrev pub decreases-walk_option : goal.decreases-walk_option
decreases-walk_option l = 3 * option_map_or expr_nodes l.e.now 0 + 1

abbrev pub decreases-walk_exprs : goal.decreases-walk_exprs
decreases-walk_exprs l = 3 * sum_by expr_nodes l.es.now + 1

abbrev pub decreases-walk_targets : goal.decreases-walk_targets
decreases-walk_targets l = 3 * sum_by target_nodes l.targets.now + 1

abbrev pub decreases-walk_pair : goal.decreases-walk_pair
decreases-walk_pair l = 3 * (expr_nodes l.pair.now.0 + expr_nodes l.pair.now.1) + 1

abbrev pub decreases-walk_pairs : goal.decreases-walk_pairs
decreases-walk_pairs l = 3 * sum_by (λ p. expr_nodes p.0 + expr_nodes p.1) l.pairs.now + 2
