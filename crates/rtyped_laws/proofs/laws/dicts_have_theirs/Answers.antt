use Rattle.rtyped_laws.proofs.Asking.{dict_asks, dict_smalls}
use Rattle.rtyped_laws.proofs.Helping.{helpers_have_theirs}
use Rattle.rtyped_laws.proofs.Values.{values_have_theirs}
use Rattle.rtyped_laws.proofs.laws.dicts_have_theirs.Goals as goal

pub returns-clause-graphs : goal.returns-clause-graphs
returns-clause-graphs c = dict_smalls values_have_theirs helpers_have_theirs

pub returns-clause-asks : goal.returns-clause-asks
returns-clause-asks c = dict_asks values_have_theirs helpers_have_theirs
