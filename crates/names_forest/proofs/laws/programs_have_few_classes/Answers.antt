use Rattle.names_forest.proofs.Places.{program_classes}
use Rattle.names_forest.proofs.laws.programs_have_few_classes.Goals as goal

pub returns : goal.returns
returns c = program_classes
