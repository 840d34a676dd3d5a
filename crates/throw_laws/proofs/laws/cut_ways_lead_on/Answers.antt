use Rattle.throw_laws.proofs.Catching.{cut_ways_lead_on}
use Rattle.throw_laws.proofs.laws.cut_ways_lead_on.Goals as goal

pub returns : goal.returns
returns c = cut_ways_lead_on
