use Rattle.dict_rows.proofs.Looking.{indices_are_written}
use Rattle.dict_rows.proofs.laws.values_are_written.Goals as goal

pub returns : goal.returns
returns c = indices_are_written
