use Rattle.helper_stands.proofs.Helpers.{plain_helpers_stand, raising_helpers_stand}
use Rattle.helper_stands.proofs.laws.helpers_stand_over_memory.Goals as goal

pub returns-clause-raising : goal.returns-clause-raising
returns-clause-raising c = raising_helpers_stand

pub returns-clause-plain : goal.returns-clause-plain
returns-clause-plain c = plain_helpers_stand
