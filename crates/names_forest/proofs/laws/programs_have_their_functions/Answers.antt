use Rattle.names_forest.proofs.Functions.{program_functions}
use Rattle.names_forest.proofs.laws.programs_have_their_functions.Goals as goal

pub returns : goal.returns
returns c = program_functions
