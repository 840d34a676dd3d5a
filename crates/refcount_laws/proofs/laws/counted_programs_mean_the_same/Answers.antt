-- The law is that of the proofs.
use Rattle.refcount_laws.proofs.Meaning.{starts_so, means_so, runs_on_so, ends_so}
use Rattle.refcount_laws.proofs.laws.counted_programs_mean_the_same.Goals as goal

pub returns-clause-starts : goal.returns-clause-starts
returns-clause-starts c = λ p w steps. starts_so p w steps

pub returns-clause-means : goal.returns-clause-means
returns-clause-means c = λ p w leads closed args steps k m ready e ends. means_so p w leads closed args steps k m ready e ends

pub returns-clause-back : goal.returns-clause-back
returns-clause-back c = λ p w leads closed args steps ready ends last means. ends_so p w leads closed args steps ready ends last means

pub returns-clause-on : goal.returns-clause-on
returns-clause-on c = λ p w leads closed args steps ready on k. runs_on_so p w leads closed args steps ready on k
