use Rattle.entry_laws.proofs.Ending.{entry_points_are_entries, entry_points_end}
use Rattle.entry_laws.proofs.laws.entry_points_end.Goals as goal

pub returns-clause-ends : goal.returns-clause-ends
returns-clause-ends c = entry_points_end

pub returns-clause-entries : goal.returns-clause-entries
returns-clause-entries c = entry_points_are_entries
