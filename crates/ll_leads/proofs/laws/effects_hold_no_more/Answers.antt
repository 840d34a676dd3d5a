use Rattle.ll_leads.proofs.Counting.{effect_holds}
use Rattle.ll_leads.proofs.laws.effects_hold_no_more.Goals as goal

pub returns : goal.returns
returns c = effect_holds
