use Rattle.ll_strings.proofs.Weights.{weighs_little}
use Rattle.ll_strings.proofs.laws.helpers_weigh_little.Goals as goal

pub returns : goal.returns
returns c = weighs_little
