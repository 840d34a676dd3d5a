use Rattle.entry_laws.proofs.Beginning.{entry_points_are_called, whole_runs_are_followed}
use Rattle.entry_laws.proofs.laws.entry_points_are_called.Goals as goal

pub returns-clause-called : goal.returns-clause-called
returns-clause-called c = entry_points_are_called

pub returns-clause-runs : goal.returns-clause-runs
returns-clause-runs c = whole_runs_are_followed
