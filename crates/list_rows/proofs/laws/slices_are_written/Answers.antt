use Rattle.list_rows.proofs.Slices.{shortenings_are_written, slices_are_written}
use Rattle.list_rows.proofs.laws.slices_are_written.Goals as goal

pub returns-clause-between : goal.returns-clause-between
returns-clause-between c = slices_are_written

pub returns-clause-but_last : goal.returns-clause-but_last
returns-clause-but_last c = shortenings_are_written
