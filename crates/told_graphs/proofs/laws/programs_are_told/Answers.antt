use Rattle.told_graphs.proofs.Programs.{programs_are_told}
use Rattle.told_graphs.proofs.laws.programs_are_told.Goals as goal

pub returns : goal.returns
returns c = programs_are_told
