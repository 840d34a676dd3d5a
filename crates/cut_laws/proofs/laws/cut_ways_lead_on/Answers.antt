use Rattle.cut_laws.proofs.Cutting.{cut_ways_lead_on}
use Rattle.cut_laws.proofs.laws.cut_ways_lead_on.Goals as goal

pub returns : goal.returns
returns c = cut_ways_lead_on
