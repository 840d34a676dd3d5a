-- The law is that of the proofs.
use Rattle.refcount_ready.proofs.Composed.{means_the_same, ends_only, never_stuck, runs_on}
use Rattle.refcount_ready.proofs.laws.counted_runs_mean_the_same.Goals as goal

pub returns-clause-means : goal.returns-clause-means
returns-clause-means c = λ p can args steps small m means ends. means_the_same p can args steps small m means ends

pub returns-clause-back : goal.returns-clause-back
returns-clause-back c = λ p can args steps small ends last means. ends_only p can args steps small ends last means

pub returns-clause-stuck : goal.returns-clause-stuck
returns-clause-stuck c = λ p can args steps small ends last means. never_stuck p can args steps small ends last means

pub returns-clause-on : goal.returns-clause-on
returns-clause-on c = λ p can args steps small on k. runs_on p can args steps small on k
