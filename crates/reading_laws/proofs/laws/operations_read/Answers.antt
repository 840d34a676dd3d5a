use Rattle.reading_laws.proofs.Graphs.{operations_read}
use Rattle.reading_laws.proofs.laws.operations_read.Goals as goal

pub returns : goal.returns
returns c = operations_read
