use Rattle.value_rows.proofs.Numbers.{checks}
use Rattle.value_rows.proofs.Single.{negations}
use Rattle.value_rows.proofs.laws.checked_operations_are_written.Goals as goal

pub returns-clause-checks : goal.returns-clause-checks
returns-clause-checks c = checks

pub returns-clause-opposites : goal.returns-clause-opposites
returns-clause-opposites c = negations
