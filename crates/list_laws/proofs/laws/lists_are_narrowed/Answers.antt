use Rattle.list_laws.proofs.Narrowed.{there_is_done, only_none_is_done, false_none_is_done}
use Rattle.list_laws.proofs.laws.lists_are_narrowed.Goals as goal

pub returns-clause-there : goal.returns-clause-there
returns-clause-there c = there_is_done

pub returns-clause-only_none : goal.returns-clause-only_none
returns-clause-only_none c = only_none_is_done

pub returns-clause-false_none : goal.returns-clause-false_none
returns-clause-false_none c = false_none_is_done
