use Rattle.reading_laws.proofs.Graphs.{operations_fit}
use Rattle.reading_laws.proofs.laws.operations_fit.Goals as goal

pub returns : goal.returns
returns c = operations_fit
