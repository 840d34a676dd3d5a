use Rattle.ll_strings.proofs.Catching.{helpers_catch}
use Rattle.ll_strings.proofs.laws.helpers_catch_nothing.Goals as goal

pub returns : goal.returns
returns c = helpers_catch
