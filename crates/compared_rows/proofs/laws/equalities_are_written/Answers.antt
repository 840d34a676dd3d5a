use Rattle.compared_rows.proofs.Equality.{equal, unequal}
use Rattle.compared_rows.proofs.laws.equalities_are_written.Goals as goal

pub returns-clause-equal : goal.returns-clause-equal
returns-clause-equal c = equal

pub returns-clause-unequal : goal.returns-clause-unequal
returns-clause-unequal c = unequal
