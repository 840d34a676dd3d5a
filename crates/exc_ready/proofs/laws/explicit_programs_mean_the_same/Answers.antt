use Rattle.exc_laws.proofs.Whole.{means_forth, means_back, goes_on, goes_on_too}
use Rattle.exc_ready.proofs.Whole.{allowed}
use Rattle.exc_ready.proofs.laws.explicit_programs_mean_the_same.Goals as goal

pub returns-clause-forth : goal.returns-clause-forth
returns-clause-forth c p ok raw passes args steps classed meant h = means_forth p ok raw args steps (allowed p ok raw passes args steps classed) meant h

pub returns-clause-back : goal.returns-clause-back
returns-clause-back c p ok raw passes args steps classed meant h = means_back p ok raw args steps (allowed p ok raw passes args steps classed) meant h

pub returns-clause-on : goal.returns-clause-on
returns-clause-on c p ok raw passes args steps classed on k = goes_on p ok raw args steps (allowed p ok raw passes args steps classed) on k

pub returns-clause-on_too : goal.returns-clause-on_too
returns-clause-on_too c p ok raw passes args steps classed on k = goes_on_too p ok raw args steps (allowed p ok raw passes args steps classed) on k
