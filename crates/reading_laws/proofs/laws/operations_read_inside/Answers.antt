use Rattle.reading_laws.proofs.Graphs.{operations_read_inside}
use Rattle.reading_laws.proofs.laws.operations_read_inside.Goals as goal

pub returns : goal.returns
returns c = operations_read_inside
