use Rattle.std.proofs.Common.{◌∙◌}
use Rattle.flow_space.proofs.Items.{either_is}
use Rattle.flow_space.proofs.narrow.needs_sides.Goals as goal

pub returns : goal.returns
returns c = λ sites. c.either.ensures ∙ either_is (c.needs_side-there.ensures sites) (c.needs_side-elsewhere.ensures sites)
