use Rattle.std.proofs.Common.{◌∙◌}
use Rattle.ann_needs.proofs.Read.{cell_none}
use Rattle.ann_needs.proofs.state.State.element.Goals as goal

pub returns-in-None : goal.returns-in-None
returns-in-None c = c.unreached.ensures ∙ cell_none c.args.self.now.cells c.args.cell c.in-None.ensures.value
