use Rattle.names_rules.proofs.Least.{least_is_told, told_is_least, least_both}
use Rattle.names_rules.proofs.laws.least_fault_is_told.Goals as goal

pub returns-clause-told : goal.returns-clause-told
returns-clause-told c = least_is_told

pub returns-clause-one : goal.returns-clause-one
returns-clause-one c = told_is_least

pub returns-clause-beside : goal.returns-clause-beside
returns-clause-beside c = least_both
