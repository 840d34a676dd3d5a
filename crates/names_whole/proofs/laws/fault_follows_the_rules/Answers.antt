use Rattle.names_whole.proofs.Fault.{fault_told, one_of_both}
use Rattle.names_whole.proofs.laws.fault_follows_the_rules.Goals as goal

pub returns-clause-fault : goal.returns-clause-fault
returns-clause-fault c = fault_told

pub returns-clause-program : goal.returns-clause-program
returns-clause-program c = one_of_both
