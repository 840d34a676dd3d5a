use Rattle.front_tests.proofs.show.+member.Given as goal

abbrev pub decreases-push_member : goal.decreases-push_member
decreases-push_member l = l.depth

abbrev pub decreases-push_members : goal.decreases-push_members
decreases-push_members l = l.depth
