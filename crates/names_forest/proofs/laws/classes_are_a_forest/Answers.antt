use Rattle.names_forest.proofs.Forest.{forest, program_forest}
use Rattle.names_forest.proofs.laws.classes_are_a_forest.Goals as goal

pub returns-clause-rules : goal.returns-clause-rules
returns-clause-rules c = forest

pub returns-clause-programs : goal.returns-clause-programs
returns-clause-programs c = program_forest
