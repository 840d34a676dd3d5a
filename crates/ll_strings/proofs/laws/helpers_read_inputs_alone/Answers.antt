use Rattle.ll_strings.proofs.Closed.{helpers_alone}
use Rattle.ll_strings.proofs.laws.helpers_read_inputs_alone.Goals as goal

pub returns : goal.returns
returns c = helpers_alone
