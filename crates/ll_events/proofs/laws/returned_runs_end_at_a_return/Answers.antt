-- Nothing else ends a run so.
use Rattle.ll_events.proofs.Telling.{return_is_last}
use Rattle.ll_events.proofs.laws.returned_runs_end_at_a_return.Goals as goal

pub returns : goal.returns
returns c = λ p args steps n s m w e. return_is_last p args steps n s m w e
