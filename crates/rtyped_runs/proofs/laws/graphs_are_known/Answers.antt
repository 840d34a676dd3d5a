use Rattle.rtyped_runs.proofs.Premises.{graphs_are_known}
use Rattle.rtyped_runs.proofs.laws.graphs_are_known.Goals as goal

pub returns : goal.returns
returns c = graphs_are_known
