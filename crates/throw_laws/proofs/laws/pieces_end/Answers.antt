use Rattle.throw_laws.proofs.Catching.{pieces_end, pieces_go_on}
use Rattle.throw_laws.proofs.laws.pieces_end.Goals as goal

pub returns-clause-done : goal.returns-clause-done
returns-clause-done c = pieces_go_on

pub returns-clause-over : goal.returns-clause-over
returns-clause-over c = pieces_end
