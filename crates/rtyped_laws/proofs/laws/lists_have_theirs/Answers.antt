use Rattle.rtyped_laws.proofs.Asking.{list_asks, list_smalls}
use Rattle.rtyped_laws.proofs.Helping.{helpers_have_theirs}
use Rattle.rtyped_laws.proofs.Values.{values_have_theirs}
use Rattle.rtyped_laws.proofs.laws.lists_have_theirs.Goals as goal

pub returns-clause-graphs : goal.returns-clause-graphs
returns-clause-graphs c = list_smalls values_have_theirs helpers_have_theirs

pub returns-clause-asks : goal.returns-clause-asks
returns-clause-asks c = list_asks values_have_theirs helpers_have_theirs
