use Rattle.list_rows.proofs.Walks.{comprehensions_are_written}
use Rattle.list_rows.proofs.laws.comprehensions_are_written.Goals as goal

pub returns : goal.returns
returns c = comprehensions_are_written
