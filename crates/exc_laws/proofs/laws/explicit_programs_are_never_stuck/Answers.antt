use Rattle.exc_laws.proofs.Whole.{never_stuck}
use Rattle.exc_laws.proofs.laws.explicit_programs_are_never_stuck.Goals as goal

pub returns : goal.returns
returns c p ok raw allows never args steps meant h = never_stuck p ok raw allows never args steps meant h
