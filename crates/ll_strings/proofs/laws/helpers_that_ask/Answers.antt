use Rattle.ll_strings.proofs.Asking.{len_is, truth_is, index_is, walk_is, has_item_is, item_is}
use Rattle.ll_strings.proofs.laws.helpers_that_ask.Goals as goal

pub returns-clause-len : goal.returns-clause-len
returns-clause-len c = len_is

pub returns-clause-truth : goal.returns-clause-truth
returns-clause-truth c = truth_is

pub returns-clause-index : goal.returns-clause-index
returns-clause-index c = index_is

pub returns-clause-walk : goal.returns-clause-walk
returns-clause-walk c = walk_is

pub returns-clause-has_item : goal.returns-clause-has_item
returns-clause-has_item c = has_item_is

pub returns-clause-item : goal.returns-clause-item
returns-clause-item c = item_is
