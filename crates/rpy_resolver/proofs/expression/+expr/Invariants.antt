use Rattle.std.proofs.Common.{◌≡◌, ℕ, ◌+◌, ◌*◌, ◌≤◌, ◌++◌, map, drop}
use Rattle.std.specs.Prelude.{sum_by}
use Rattle.std.specs.Option.{option_map_or}
use Rattle.rpy_tree.specs.Size.{expr_nodes, target_nodes as target_size}
use Rattle.rpy_meaning.specs.Resolved.{expr_by, target_by}
use Rattle.resolver_names.specs.Nodes.{total, pair_total, values, bound_values, nodes, target_nodes}
use Rattle.resolver_names.specs.Told.{the_names, tree_of, aim_of}
use Rattle.resolver_names.specs.Forms.{both}
use Rattle.rpy_resolver.proofs.expression.+expr.Given as goal

-- Each call has fewer nodes, or as many and a lower rank.
abbrev pub decreases-resolve_expr : goal.decreases-resolve_expr
decreases-resolve_expr l = 8 * expr_nodes l.e.now

abbrev pub decreases-resolve_own : goal.decreases-resolve_own
decreases-resolve_own l = 8 * expr_nodes l.e.now + 1

abbrev pub decreases-resolve_option : goal.decreases-resolve_option
decreases-resolve_option l = 8 * option_map_or expr_nodes l.e.now 0 + 2

abbrev pub decreases-resolve_exprs : goal.decreases-resolve_exprs
decreases-resolve_exprs l = 8 * sum_by expr_nodes l.es.now + 1

abbrev pub decreases-resolve_pair : goal.decreases-resolve_pair
decreases-resolve_pair l = 8 * (expr_nodes l.pair.now.0 + expr_nodes l.pair.now.1) + 1

abbrev pub decreases-resolve_pairs : goal.decreases-resolve_pairs
decreases-resolve_pairs l = 8 * sum_by (λ p. expr_nodes p.0 + expr_nodes p.1) l.pairs.now + 2

abbrev pub decreases-resolve_one : goal.decreases-resolve_one
decreases-resolve_one l = 8 * expr_nodes l.a.now + 1

abbrev pub decreases-resolve_two : goal.decreases-resolve_two
decreases-resolve_two l = 8 * (expr_nodes l.a.now + expr_nodes l.b.now) + 1

abbrev pub decreases-resolve_all : goal.decreases-resolve_all
decreases-resolve_all l = 8 * sum_by expr_nodes l.es.now + 2

abbrev pub decreases-resolve_first : goal.decreases-resolve_first
decreases-resolve_first l = 8 * (expr_nodes l.first.now + sum_by expr_nodes l.es.now) + 2

abbrev pub decreases-resolve_logic : goal.decreases-resolve_logic
decreases-resolve_logic l = 8 * (expr_nodes l.a.now + expr_nodes l.b.now) + 2

abbrev pub decreases-resolve_attr : goal.decreases-resolve_attr
decreases-resolve_attr l = 8 * expr_nodes l.a.now + 2

abbrev pub decreases-resolve_slice : goal.decreases-resolve_slice
decreases-resolve_slice l = 8 * (expr_nodes l.a.now + option_map_or expr_nodes l.low.now 0 + option_map_or expr_nodes l.high.now 0) + 2

abbrev pub decreases-resolve_part : goal.decreases-resolve_part
decreases-resolve_part l = 8 * (expr_nodes l.a.now + expr_nodes l.low.now + expr_nodes l.high.now) + 1

abbrev pub decreases-resolve_call : goal.decreases-resolve_call
decreases-resolve_call l = 8 * (expr_nodes l.callee.now + sum_by expr_nodes l.args.now) + 5

abbrev pub decreases-resolve_named : goal.decreases-resolve_named
decreases-resolve_named l = 8 * (expr_nodes l.callee.now + sum_by expr_nodes l.args.now) + 4

abbrev pub decreases-resolve_builtin : goal.decreases-resolve_builtin
decreases-resolve_builtin l = 8 * sum_by expr_nodes l.args.now + 3

abbrev pub decreases-resolve_isinstance : goal.decreases-resolve_isinstance
decreases-resolve_isinstance l = 8 * sum_by expr_nodes l.args.now + 2

abbrev pub decreases-resolve_ovfcheck : goal.decreases-resolve_ovfcheck
decreases-resolve_ovfcheck l = 8 * sum_by expr_nodes l.args.now + 2

abbrev pub decreases-resolve_subject : goal.decreases-resolve_subject
decreases-resolve_subject l = 8 * expr_nodes l.e.now + 1

abbrev pub decreases-resolve_range : goal.decreases-resolve_range
decreases-resolve_range l = 8 * sum_by expr_nodes l.args.now + 2

abbrev pub decreases-resolve_from : goal.decreases-resolve_from
decreases-resolve_from l = 8 * (expr_nodes l.start.now + expr_nodes l.end.now) + 1

abbrev pub decreases-resolve_target : goal.decreases-resolve_target
decreases-resolve_target l = 8 * target_size l.target.now

abbrev pub decreases-resolve_targets : goal.decreases-resolve_targets
decreases-resolve_targets l = 8 * sum_by target_size l.targets.now + 1

abbrev pub decreases-resolve_dict : goal.decreases-resolve_dict
decreases-resolve_dict l = 8 * sum_by (λ p. expr_nodes p.0 + expr_nodes p.1) l.pairs.now + 3

abbrev pub decreases-resolve_comp : goal.decreases-resolve_comp
decreases-resolve_comp l = 8 * (expr_nodes l.item.now + target_size l.target.now + expr_nodes l.subject.now + option_map_or expr_nodes l.condition.now 0) + 3

-- What is made so far, and what is left, are the whole.
abbrev pub invariant-resolve_exprs-loop-e : goal.invariant-resolve_exprs-loop-e
invariant-resolve_exprs-loop-e l =
    (map (tree_of l.names) l.parts ++ map (expr_by (the_names l.names)) (drop l.e-index l.es)
    ≡ map (tree_of l.names) l.initial.parts ++ map (expr_by (the_names l.names)) l.es)
    × ((k : ℕ) → total (map (values k) l.parts) + total (map (nodes k l.names.first) (drop l.e-index l.es)) ≤ total (map (values k) l.initial.parts) + total (map (nodes k l.names.first) l.es))

abbrev pub invariant-resolve_pairs-loop-pair : goal.invariant-resolve_pairs-loop-pair
invariant-resolve_pairs-loop-pair l =
    (map (both (tree_of l.names)) l.parts ++ map (both (expr_by (the_names l.names))) (drop l.pair-index l.pairs)
    ≡ map (both (expr_by (the_names l.names))) l.pairs)
    × ((k : ℕ) → pair_total (map (both (values k)) l.parts) + pair_total (map (both (nodes k l.names.first)) (drop l.pair-index l.pairs)) ≤ pair_total (map (both (nodes k l.names.first)) l.pairs))

abbrev pub invariant-resolve_targets-loop-target : goal.invariant-resolve_targets-loop-target
invariant-resolve_targets-loop-target l =
    (map (aim_of l.names) l.parts ++ map (target_by (the_names l.names)) (drop l.target-index l.targets)
    ≡ map (target_by (the_names l.names)) l.targets)
    × ((k : ℕ) → total (map (bound_values k) l.parts) + total (map (target_nodes k l.names.first) (drop l.target-index l.targets)) ≤ total (map (target_nodes k l.names.first) l.targets))
