use Rattle.ann_lift.proofs.Functions.{shown_in}
use Rattle.ann_lift.proofs.laws.closed_trees_show_what_stands_at_blocks.Goals as goal

pub returns : goal.returns
returns c = λ p sites a gs program functions classes stand closed formed. shown_in p sites a gs program functions classes stand closed formed
