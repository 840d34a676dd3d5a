use Rattle.ann_planned.proofs.Planning.{has_cells}
use Rattle.ann_planned.proofs.laws.planned_parts_have_cells.Goals as goal

pub returns : goal.returns
returns c = has_cells
