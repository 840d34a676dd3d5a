use Rattle.flow_space.proofs.narrow.less.Goals as goal

pub returns-then-truth : goal.returns-then-truth
returns-then-truth c = λ sites. rw c.if-truth.true (c.beside.ensures sites)

pub returns-else-truth : goal.returns-else-truth
returns-else-truth c = λ sites. rw c.if-truth.false (c.beside-else-truth.ensures sites)
