use Rattle.front_tests.proofs.show.+stmt.Given as goal

abbrev pub decreases-push_block : goal.decreases-push_block
decreases-push_block l = l.depth

abbrev pub decreases-push_clause : goal.decreases-push_clause
decreases-push_clause l = l.depth

abbrev pub decreases-push_stmt : goal.decreases-push_stmt
decreases-push_stmt l = l.depth
