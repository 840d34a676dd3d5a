use Rattle.ll_leads.proofs.Bounded.{calls_stay_small}
use Rattle.ll_leads.proofs.laws.calls_stay_small.Goals as goal

pub returns : goal.returns
returns c = calls_stay_small
