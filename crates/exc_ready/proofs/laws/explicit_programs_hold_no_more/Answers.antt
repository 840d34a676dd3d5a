use Rattle.exc_laws.proofs.Holds.{holds_no_more}
use Rattle.exc_ready.proofs.Whole.{allowed}
use Rattle.exc_ready.proofs.laws.explicit_programs_hold_no_more.Goals as goal

pub returns : goal.returns
returns c p ok raw passes args steps classed apart k x text events e = holds_no_more p ok raw args steps (allowed p ok raw passes args steps classed) apart k x text events e
