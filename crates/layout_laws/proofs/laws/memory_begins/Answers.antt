use Rattle.layout_laws.proofs.Beginning.{memory_begins}
use Rattle.layout_laws.proofs.laws.memory_begins.Goals as goal

pub returns : goal.returns
returns c = memory_begins
