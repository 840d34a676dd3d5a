use Rattle.names_forest.proofs.Builtins.{builtins_stand}
use Rattle.names_forest.proofs.laws.builtins_stand_below_exception.Goals as goal

pub returns : goal.returns
returns c = builtins_stand
