use Rattle.list_laws.proofs.Lengths.{lengths_are_read}
use Rattle.list_laws.proofs.laws.lengths_are_read.Goals as goal

pub returns : goal.returns
returns c = lengths_are_read
