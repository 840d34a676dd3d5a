use Rattle.passing_laws.proofs.Giving.{results_are_given}
use Rattle.passing_laws.proofs.laws.results_are_given.Goals as goal

pub returns : goal.returns
returns c = results_are_given
