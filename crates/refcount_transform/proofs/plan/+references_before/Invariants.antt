use Rattle.refcount_transform.proofs.plan.+references_before.Given as goal

abbrev pub decreases-references_before : goal.decreases-references_before
decreases-references_before l = l.k
