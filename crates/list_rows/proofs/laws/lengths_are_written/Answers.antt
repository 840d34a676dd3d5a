use Rattle.list_rows.proofs.Lengths.{lengths_are_written}
use Rattle.list_rows.proofs.laws.lengths_are_written.Goals as goal

pub returns : goal.returns
returns c = lengths_are_written
