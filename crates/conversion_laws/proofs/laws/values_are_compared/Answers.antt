use Rattle.conversion_laws.proofs.Deciding.{equal_is_done, unequal_is_done}
use Rattle.conversion_laws.proofs.laws.values_are_compared.Goals as goal

pub returns-clause-equal : goal.returns-clause-equal
returns-clause-equal c = equal_is_done

pub returns-clause-unequal : goal.returns-clause-unequal
returns-clause-unequal c = unequal_is_done
