use Rattle.compared_rows.proofs.Truths.{truths_written, opposites_written}
use Rattle.compared_rows.proofs.laws.truths_are_written.Goals as goal

pub returns-clause-truth : goal.returns-clause-truth
returns-clause-truth c = truths_written

pub returns-clause-opposite : goal.returns-clause-opposite
returns-clause-opposite c = opposites_written
