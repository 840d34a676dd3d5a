use Rattle.ll_strings.proofs.Lookup.{helper_stands}
use Rattle.ll_strings.proofs.laws.helpers_stand_at_their_needs.Goals as goal

pub returns : goal.returns
returns c = helper_stands
