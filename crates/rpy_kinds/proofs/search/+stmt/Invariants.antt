use Rattle.std.proofs.Common.{◌≡◌, ◌+◌, ◌*◌, drop}
use Rattle.std.specs.Prelude.{sum_by}
use Rattle.std.specs.Option.{option_map_or}
use Rattle.rpy_tree.specs.Size.{expr_nodes, stmt_nodes, body_nodes, clause_nodes}
use Rattle.rpy_kinds.specs.Search.{block, clauses, arms}
use Rattle.rpy_kinds.proofs.search.+stmt.Given as goal

-- The rest of the parts gives what all of them give.
abbrev pub invariant-read_block-loop-s : goal.invariant-read_block-loop-s
invariant-read_block-loop-s l = block l.node (drop l.s-index l.body) l.search ≡ block l.node l.body l.fn.search

abbrev pub invariant-read_clauses-loop-clause : goal.invariant-read_clauses-loop-clause
invariant-read_clauses-loop-clause l = clauses l.node (drop l.clause-index l.clauses) l.search ≡ clauses l.node l.clauses l.fn.search

abbrev pub invariant-read_arms-loop-arm : goal.invariant-read_arms-loop-arm
invariant-read_arms-loop-arm l = arms l.node (drop l.arm-index l.arms) l.search ≡ arms l.node l.arms l.fn.search

-- Each call has fewer nodes, or as many and a lower rank.
abbrev pub decreases-read_stmt : goal.decreases-read_stmt
decreases-read_stmt l = 6 * stmt_nodes l.s.now

abbrev pub decreases-read_clause : goal.decreases-read_clause
decreases-read_clause l = 6 * clause_nodes l.clause.now

abbrev pub decreases-read_block : goal.decreases-read_block
decreases-read_block l = 6 * body_nodes l.body.now + 1

abbrev pub decreases-read_clauses : goal.decreases-read_clauses
decreases-read_clauses l = 6 * sum_by clause_nodes l.clauses.now + 1

abbrev pub decreases-read_finally : goal.decreases-read_finally
decreases-read_finally l = 6 * option_map_or body_nodes l.last.now 0 + 2

abbrev pub decreases-read_arm : goal.decreases-read_arm
decreases-read_arm l = 6 * (expr_nodes l.arm.now.0 + body_nodes l.arm.now.1) + 3

abbrev pub decreases-read_arms : goal.decreases-read_arms
decreases-read_arms l = 6 * sum_by (λ arm. expr_nodes arm.0 + body_nodes arm.1) l.arms.now + 4

abbrev pub decreases-read_tested : goal.decreases-read_tested
decreases-read_tested l = 6 * (expr_nodes l.test.now + body_nodes l.body.now) + 2

abbrev pub decreases-read_if : goal.decreases-read_if
decreases-read_if l = 6 * (sum_by (λ arm. expr_nodes arm.0 + body_nodes arm.1) l.branches.now + body_nodes l.other.now) + 5

abbrev pub decreases-read_for : goal.decreases-read_for
decreases-read_for l = 6 * body_nodes l.body.now + 2

abbrev pub decreases-read_try : goal.decreases-read_try
decreases-read_try l = 6 * (body_nodes l.body.now + sum_by clause_nodes l.clauses.now + body_nodes l.other.now + option_map_or body_nodes l.last.now 0) + 3
