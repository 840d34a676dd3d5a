use Rattle.dict_conversion_laws.proofs.First.{values_are_read_as, values_are_read_so}
use Rattle.dict_conversion_laws.proofs.laws.values_are_read.Goals as goal

pub returns-clause-itself : goal.returns-clause-itself
returns-clause-itself c = values_are_read_so

pub returns-clause-converted : goal.returns-clause-converted
returns-clause-converted c = values_are_read_as
