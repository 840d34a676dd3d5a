use Rattle.typed_runs.proofs.Graphs.{what_is_asked_for_stands}
use Rattle.typed_runs.proofs.laws.what_is_asked_for_stands.Goals as goal

pub returns : goal.returns
returns c = what_is_asked_for_stands
