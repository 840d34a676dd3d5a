use Rattle.exc_laws.proofs.Whole.{never_stuck}
use Rattle.exc_ready.proofs.Whole.{allowed}
use Rattle.exc_ready.proofs.laws.explicit_programs_are_never_stuck.Goals as goal

pub returns : goal.returns
returns c p ok raw passes classed never args steps meant h = never_stuck p ok raw (λ args steps. allowed p ok raw passes args steps (classed args steps)) never args steps meant h
