use Rattle.class_laws.proofs.Copied.{narrowings_are_done, lowerings_are_done, only_none_is_done, false_none_is_done}
use Rattle.class_laws.proofs.laws.instances_are_narrowed.Goals as goal

pub returns-clause-there : goal.returns-clause-there
returns-clause-there c = narrowings_are_done

pub returns-clause-lower : goal.returns-clause-lower
returns-clause-lower c = lowerings_are_done

pub returns-clause-only_none : goal.returns-clause-only_none
returns-clause-only_none c = only_none_is_done

pub returns-clause-false_none : goal.returns-clause-false_none
returns-clause-false_none c = false_none_is_done
