use Rattle.flow_space.proofs.narrow.compared.Goals as goal

pub returns-in-Lt : goal.returns-in-Lt
returns-in-Lt c = λ sites. rw c.in-Lt.is (c.less.ensures sites)

pub returns-in-Le : goal.returns-in-Le
returns-in-Le c = λ sites. rw c.in-Le.is (c.less-in-Le.ensures sites)

pub returns-in-Gt : goal.returns-in-Gt
returns-in-Gt c = λ sites. rw c.in-Gt.is (c.less-in-Gt.ensures sites)

pub returns-in-Ge : goal.returns-in-Ge
returns-in-Ge c = λ sites. rw c.in-Ge.is (c.less-in-Ge.ensures sites)

pub returns-in-Is : goal.returns-in-Is
returns-in-Is c = λ sites. rw c.in-Is.is (c.none_test.ensures sites)

pub returns-in-IsNot : goal.returns-in-IsNot
returns-in-IsNot c = λ sites. rw c.in-IsNot.is (c.none_test-in-IsNot.ensures sites)
