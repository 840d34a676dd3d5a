use Rattle.value_rows.proofs.Conversions.{conversions_stand, elements_convert}
use Rattle.value_rows.proofs.laws.conversions_stand.Goals as goal

pub returns-clause-stand : goal.returns-clause-stand
returns-clause-stand c = conversions_stand

pub returns-clause-convert : goal.returns-clause-convert
returns-clause-convert c = elements_convert
