use Rattle.block_laws.proofs.Exiting.{results_are_given}
use Rattle.block_laws.proofs.laws.results_are_given.Goals as goal

pub returns : goal.returns
returns c = results_are_given
