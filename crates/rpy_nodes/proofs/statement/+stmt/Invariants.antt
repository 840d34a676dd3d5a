use Rattle.std.proofs.Common.{◌≡◌, ◌+◌, ◌*◌, drop}
use Rattle.std.specs.Prelude.{sum_by}
use Rattle.std.specs.Option.{option_map_or}
use Rattle.rpy_tree.specs.Size.{expr_nodes, stmt_nodes, body_nodes, clause_nodes}
use Rattle.rpy_nodes.specs.Walk.{block, clauses, elifs}
use Rattle.rpy_nodes.proofs.statement.+stmt.Given as goal

-- The rest of the parts gives what all of them give.
abbrev pub invariant-walk_block-loop-s : goal.invariant-walk_block-loop-s
invariant-walk_block-loop-s l = block (drop l.s-index l.body) l.walk ≡ block l.body l.fn.walk

abbrev pub invariant-walk_clauses-loop-clause : goal.invariant-walk_clauses-loop-clause
invariant-walk_clauses-loop-clause l = clauses (drop l.clause-index l.clauses) l.walk ≡ clauses l.clauses l.fn.walk

abbrev pub invariant-walk_elifs-loop-arm : goal.invariant-walk_elifs-loop-arm
invariant-walk_elifs-loop-arm l = elifs (drop l.arm-index l.arms) l.walk ≡ elifs l.arms l.fn.walk

-- Each call has fewer nodes, or as many and a lower rank.
abbrev pub decreases-walk_stmt : goal.decreases-walk_stmt
decreases-walk_stmt l = 4 * stmt_nodes l.s.now

abbrev pub decreases-walk_clause : goal.decreases-walk_clause
decreases-walk_clause l = 4 * clause_nodes l.clause.now

abbrev pub decreases-walk_block : goal.decreases-walk_block
decreases-walk_block l = 4 * body_nodes l.body.now + 1

abbrev pub decreases-walk_clauses : goal.decreases-walk_clauses
decreases-walk_clauses l = 4 * sum_by clause_nodes l.clauses.now + 1

abbrev pub decreases-walk_finally : goal.decreases-walk_finally
decreases-walk_finally l = 4 * option_map_or body_nodes l.last.now 0 + 2

abbrev pub decreases-walk_first : goal.decreases-walk_first
decreases-walk_first l = 4 * (expr_nodes l.arm.now.0 + body_nodes l.arm.now.1) + 2

abbrev pub decreases-walk_other : goal.decreases-walk_other
decreases-walk_other l = 4 * (expr_nodes l.arm.now.0 + body_nodes l.arm.now.1) + 2

abbrev pub decreases-walk_elifs : goal.decreases-walk_elifs
decreases-walk_elifs l = 4 * sum_by (λ arm. expr_nodes arm.0 + body_nodes arm.1) l.arms.now + 3

abbrev pub decreases-walk_arms : goal.decreases-walk_arms
decreases-walk_arms l = 4 * sum_by (λ arm. expr_nodes arm.0 + body_nodes arm.1) l.arms.now + 3
