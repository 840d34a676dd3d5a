use Rattle.std.proofs.Common.{rules}
use Rattle.ll_build.specs.Needs.{all_shared}
use Rattle.ll_build.proofs.needs.all_shared.Goals as goal

pub returns : goal.returns
unfolding all_shared
returns c = search rules
