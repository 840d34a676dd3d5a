use Rattle.std.proofs.Common.{◌≡◌, ℕ, ◌+◌, ◌*◌, ◌≤◌, ◌++◌, length, map, drop}
use Rattle.std.specs.Prelude.{sum_by}
use Rattle.std.specs.Option.{option_map_or}
use Rattle.rpy_tree.specs.Size.{expr_nodes, stmt_nodes as stmt_size, body_nodes, clause_nodes as clause_size}
use Rattle.rpy_meaning.specs.Resolved.{stmt_by, onto, joined, if_of}
use Rattle.resolver_names.specs.Nodes.{total, caught_values, block_values, stmt_nodes, clause_nodes, block_nodes, arm_nodes}
use Rattle.resolver_names.specs.Told.{the_names, block_tree, caught_tree, caught_by, arm_by}
use Rattle.rpy_resolver.proofs.statement.+stmt.Given as goal

-- Each call has fewer nodes, or as many and a lower rank.
abbrev pub decreases-resolve_stmt : goal.decreases-resolve_stmt
decreases-resolve_stmt l = 8 * stmt_size l.s.now

abbrev pub decreases-resolve_while : goal.decreases-resolve_while
decreases-resolve_while l = 8 * body_nodes l.body.now + 3

abbrev pub decreases-resolve_for : goal.decreases-resolve_for
decreases-resolve_for l = 8 * body_nodes l.body.now + 3

abbrev pub decreases-resolve_finally : goal.decreases-resolve_finally
decreases-resolve_finally l = 8 * body_nodes l.last.now + 3

abbrev pub decreases-resolve_try : goal.decreases-resolve_try
decreases-resolve_try l = 8 * (body_nodes l.body.now + sum_by clause_size l.clauses.now + body_nodes l.other.now) + 4

abbrev pub decreases-resolve_clauses_of : goal.decreases-resolve_clauses_of
decreases-resolve_clauses_of l = 8 * (body_nodes l.body.now + sum_by clause_size l.clauses.now + body_nodes l.other.now) + 3

abbrev pub decreases-resolve_into : goal.decreases-resolve_into
decreases-resolve_into l = 8 * body_nodes l.body.now + 1

abbrev pub decreases-resolve_block : goal.decreases-resolve_block
decreases-resolve_block l = 8 * body_nodes l.body.now + 2

abbrev pub decreases-resolve_clause : goal.decreases-resolve_clause
decreases-resolve_clause l = 8 * clause_size l.clause.now

abbrev pub decreases-resolve_clauses : goal.decreases-resolve_clauses
decreases-resolve_clauses l = 8 * sum_by clause_size l.clauses.now + 1

abbrev pub decreases-resolve_arm : goal.decreases-resolve_arm
decreases-resolve_arm l = 8 * (expr_nodes l.arm.now.0 + body_nodes l.arm.now.1) + 3

abbrev pub decreases-resolve_arms : goal.decreases-resolve_arms
decreases-resolve_arms l = 8 * (sum_by (λ arm. expr_nodes arm.0 + body_nodes arm.1) l.arms.now + body_nodes l.other.now) + 4

abbrev pub decreases-resolve_if : goal.decreases-resolve_if
decreases-resolve_if l = 8 * (expr_nodes l.arm.now.0 + body_nodes l.arm.now.1 + sum_by (λ arm. expr_nodes arm.0 + body_nodes arm.1) l.rest.now + body_nodes l.other.now) + 5

abbrev pub decreases-resolve_arms-loop-left : goal.decreases-resolve_arms-loop-left
decreases-resolve_arms-loop-left l = l.left

abbrev pub invariant-resolve_arms-loop-left : goal.invariant-resolve_arms-loop-left
invariant-resolve_arms-loop-left l =
    (l.left ≤ length l.arms)
    × (block_tree l.names l.further ≡ if_of (the_names l.names) (map (arm_by (the_names l.names)) (drop l.left l.arms)) (map (stmt_by (the_names l.names)) l.other))
    × ((k : ℕ) → block_values k l.further ≤ total (map (arm_nodes k l.names.first) (drop l.left l.arms)) + block_nodes k l.names.first l.other)

abbrev pub decreases-resolve_branches : goal.decreases-resolve_branches
decreases-resolve_branches l = 8 * (sum_by (λ arm. expr_nodes arm.0 + body_nodes arm.1) l.arms.now + body_nodes l.other.now) + 6

-- What is made so far, and what is left, are the whole.
abbrev pub invariant-resolve_into-loop-s : goal.invariant-resolve_into-loop-s
invariant-resolve_into-loop-s l =
    (onto (the_names l.names) (block_tree l.names l.block) (joined (the_names l.names) (map (stmt_by (the_names l.names)) (drop l.s-index l.body)))
    ≡ onto (the_names l.names) (block_tree l.names l.initial.block) (joined (the_names l.names) (map (stmt_by (the_names l.names)) l.body)))
    × ((k : ℕ) → block_values k l.block + total (map (stmt_nodes k l.names.first) (drop l.s-index l.body)) ≤ block_values k l.initial.block + block_nodes k l.names.first l.body)

abbrev pub invariant-resolve_clauses-loop-clause : goal.invariant-resolve_clauses-loop-clause
invariant-resolve_clauses-loop-clause l =
    (map (caught_tree l.names) l.resolved ++ map (caught_by (the_names l.names)) (drop l.clause-index l.clauses)
    ≡ map (caught_by (the_names l.names)) l.clauses)
    × ((k : ℕ) → total (map (caught_values k) l.resolved) + total (map (clause_nodes k l.names.first) (drop l.clause-index l.clauses)) ≤ total (map (clause_nodes k l.names.first) l.clauses))

abbrev pub decreases-resolve_tried : goal.decreases-resolve_tried
decreases-resolve_tried l = 8 * (body_nodes l.body.now + sum_by clause_size l.clauses.now + body_nodes l.other.now + option_map_or body_nodes l.last.now 0) + 5
