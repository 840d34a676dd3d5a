use Rattle.std.proofs.Common.{◌+◌, ◌*◌}
use Rattle.rpy_resolved.specs.Size.{stmt_size, clause_size, block_size, clauses_size}
use Rattle.flow_space.proofs.statement.+stmt.Given as goal

-- Each call has a smaller tree, or the same and a lower rank.
abbrev pub decreases-put_while : goal.decreases-put_while
decreases-put_while l = 16 * block_size l.body.now + 1

abbrev pub decreases-put_for : goal.decreases-put_for
decreases-put_for l = 16 * block_size l.body.now + 1

abbrev pub decreases-put_clause : goal.decreases-put_clause
decreases-put_clause l = 16 * clause_size l.clause.now + 1

abbrev pub decreases-put_clauses : goal.decreases-put_clauses
decreases-put_clauses l = 16 * clauses_size l.clauses.now + 2

abbrev pub decreases-put_try : goal.decreases-put_try
decreases-put_try l = 16 * (block_size l.body.now + clauses_size l.clauses.now + block_size l.other.now) + 3

abbrev pub decreases-put_left : goal.decreases-put_left
decreases-put_left l = 16 * block_size l.last.now + 1

abbrev pub decreases-put_returned : goal.decreases-put_returned
decreases-put_returned l = 16 * block_size l.last.now + 1

abbrev pub decreases-put_raised : goal.decreases-put_raised
decreases-put_raised l = 16 * block_size l.last.now + 1

abbrev pub decreases-put_finally : goal.decreases-put_finally
decreases-put_finally l = 16 * (block_size l.body.now + block_size l.last.now) + 2

abbrev pub decreases-put_if : goal.decreases-put_if
decreases-put_if l = 16 * (block_size l.body.now + block_size l.other.now) + 1

abbrev pub decreases-put_stmt : goal.decreases-put_stmt
decreases-put_stmt l = 16 * stmt_size l.s.now

abbrev pub decreases-put_block : goal.decreases-put_block
decreases-put_block l = 16 * block_size l.body.now
