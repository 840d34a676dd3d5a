use Rattle.front_tests.proofs.show.+expr.Given as goal

abbrev pub decreases-push_exprs : goal.decreases-push_exprs
decreases-push_exprs l = l.depth

abbrev pub decreases-push_pair : goal.decreases-push_pair
decreases-push_pair l = l.depth

abbrev pub decreases-push_option : goal.decreases-push_option
decreases-push_option l = l.depth

abbrev pub decreases-push_expr : goal.decreases-push_expr
decreases-push_expr l = l.depth

abbrev pub decreases-push_target : goal.decreases-push_target
decreases-push_target l = l.depth
