use Rattle.exc_laws.proofs.Small.{stay_small}
use Rattle.exc_ready.proofs.Whole.{allowed}
use Rattle.exc_ready.proofs.laws.small_runs_stay_small.Goals as goal

pub returns : goal.returns
returns c p ok raw passes args steps classed apart most few small has = stay_small p ok raw args steps (allowed p ok raw passes args steps classed) apart most few small has
