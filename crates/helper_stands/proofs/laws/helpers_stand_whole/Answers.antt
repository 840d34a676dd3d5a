use Rattle.helper_stands.proofs.Helpers.{helpers_stand_whole}
use Rattle.helper_stands.proofs.laws.helpers_stand_whole.Goals as goal

pub returns : goal.returns
returns c = helpers_stand_whole
