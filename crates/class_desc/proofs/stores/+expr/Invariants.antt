use Rattle.std.proofs.Common.{◌≡◌, ◌+◌, ◌*◌, drop}
use Rattle.std.specs.Prelude.{sum_by}
use Rattle.std.specs.Option.{option_map_or}
use Rattle.rpy_tree.specs.Size.{expr_nodes, target_nodes}
use Rattle.class_desc.specs.Stores.{exprs, targets, pairs}
use Rattle.class_desc.proofs.stores.+expr.Given as goal

-- The rest of the parts gives what all of them give.
abbrev pub invariant-read_exprs-loop-e : goal.invariant-read_exprs-loop-e
invariant-read_exprs-loop-e l = exprs l.first (drop l.e-index l.es) l.stores ≡ exprs l.first l.es l.fn.stores

abbrev pub invariant-read_pairs-loop-pair : goal.invariant-read_pairs-loop-pair
invariant-read_pairs-loop-pair l = pairs l.first (drop l.pair-index l.pairs) l.stores ≡ pairs l.first l.pairs l.fn.stores

abbrev pub invariant-read_targets-loop-target : goal.invariant-read_targets-loop-target
invariant-read_targets-loop-target l = targets l.first (drop l.target-index l.targets) l.stores ≡ targets l.first l.targets l.fn.stores

-- Each call has fewer nodes, or as many and a lower rank.
abbrev pub decreases-read_expr : goal.decreases-read_expr
decreases-read_expr l = 4 * expr_nodes l.e.now

abbrev pub decreases-read_target : goal.decreases-read_target
decreases-read_target l = 4 * target_nodes l.target.now

abbrev pub decreases-read_option : goal.decreases-read_option
decreases-read_option l = 4 * option_map_or expr_nodes l.e.now 0 + 1

abbrev pub decreases-read_exprs : goal.decreases-read_exprs
decreases-read_exprs l = 4 * sum_by expr_nodes l.es.now + 1

abbrev pub decreases-read_targets : goal.decreases-read_targets
decreases-read_targets l = 4 * sum_by target_nodes l.targets.now + 1

abbrev pub decreases-read_pair : goal.decreases-read_pair
decreases-read_pair l = 4 * (expr_nodes l.pair.now.0 + expr_nodes l.pair.now.1) + 1

abbrev pub decreases-read_pairs : goal.decreases-read_pairs
decreases-read_pairs l = 4 * sum_by (λ p. expr_nodes p.0 + expr_nodes p.1) l.pairs.now + 2

abbrev pub decreases-read_one : goal.decreases-read_one
decreases-read_one l = 4 * expr_nodes l.a.now + 1

abbrev pub decreases-read_two : goal.decreases-read_two
decreases-read_two l = 4 * (expr_nodes l.a.now + expr_nodes l.b.now) + 1

abbrev pub decreases-read_call : goal.decreases-read_call
decreases-read_call l = 4 * (expr_nodes l.callee.now + sum_by expr_nodes l.args.now) + 2

abbrev pub decreases-read_slice : goal.decreases-read_slice
decreases-read_slice l = 4 * (expr_nodes l.a.now + option_map_or expr_nodes l.from.now 0 + option_map_or expr_nodes l.to.now 0) + 2

abbrev pub decreases-read_items : goal.decreases-read_items
decreases-read_items l = 4 * sum_by expr_nodes l.items.now + 2

abbrev pub decreases-read_dict : goal.decreases-read_dict
decreases-read_dict l = 4 * sum_by (λ p. expr_nodes p.0 + expr_nodes p.1) l.entries.now + 3

abbrev pub decreases-read_comp : goal.decreases-read_comp
decreases-read_comp l = 4 * (expr_nodes l.item.now + target_nodes l.target.now + expr_nodes l.over.now + option_map_or expr_nodes l.test.now 0) + 2
