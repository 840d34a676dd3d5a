use Rattle.names_rules.proofs.Bases.{named_are, rings_same, bad_bases_are}
use Rattle.names_rules.proofs.laws.bases_follow_the_rules.Goals as goal

pub returns-clause-named : goal.returns-clause-named
returns-clause-named c = named_are

pub returns-clause-rings : goal.returns-clause-rings
returns-clause-rings c = rings_same

pub returns-clause-faults : goal.returns-clause-faults
returns-clause-faults c = bad_bases_are
