use Rattle.joined_laws.proofs.Asked.{twice, twice_closed}
use Rattle.joined_laws.proofs.laws.inputs_have_to_differ.Goals as goal

pub returns-clause-changes : goal.returns-clause-changes
returns-clause-changes c = twice

pub returns-clause-closed : goal.returns-clause-closed
returns-clause-closed c = twice_closed
