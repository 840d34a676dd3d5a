use Rattle.names_constants.proofs.Whole.{values_follow, faults_follow, roots_follow}
use Rattle.names_constants.proofs.laws.constants_follow_the_rules.Goals as goal

pub returns-clause-values : goal.returns-clause-values
returns-clause-values c = values_follow

pub returns-clause-faults : goal.returns-clause-faults
returns-clause-faults c = faults_follow

pub returns-clause-roots : goal.returns-clause-roots
returns-clause-roots c = roots_follow
