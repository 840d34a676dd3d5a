use Rattle.genc_laws.proofs.Whole.{ends_alike, comes_back, goes_on}
use Rattle.genc_laws.proofs.laws.files_mean_the_same.Goals as goal

pub returns-clause-forth : goal.returns-clause-forth
returns-clause-forth c p ok counted args steps meant h = ends_alike p ok counted args steps meant h

pub returns-clause-back : goal.returns-clause-back
returns-clause-back c p ok counted args steps c_meaning h = comes_back p ok counted args steps c_meaning h

pub returns-clause-on : goal.returns-clause-on
returns-clause-on c p ok counted args steps on k = goes_on p ok counted args steps on k
