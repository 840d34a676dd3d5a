use Rattle.dict_rows.proofs.Lengths.{displays_are_written}
use Rattle.dict_rows.proofs.laws.displays_are_written.Goals as goal

pub returns : goal.returns
returns c = displays_are_written
