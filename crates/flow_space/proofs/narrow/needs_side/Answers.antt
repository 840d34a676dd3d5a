use Rattle.std.proofs.Common.{ap, ◌∙◌}
use Rattle.flow_trees.specs.Tells.{has_beside}
use Rattle.flow_space.proofs.narrow.needs_side.Goals as goal

pub returns : goal.returns
returns c = λ sites. c.has_side.ensures ∙ ap has_beside (c.narrowed.ensures sites)
