use Rattle.turned_laws.proofs.Turning.{turned_same}
use Rattle.turned_laws.proofs.laws.turned_programs_mean_the_same.Goals as goal

pub returns : goal.returns
returns c = turned_same
