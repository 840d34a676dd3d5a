use Rattle.ann_planned.proofs.Planning.{closed_plan}
use Rattle.ann_planned.proofs.laws.closed_plans_give_closed_trees.Goals as goal

pub returns : goal.returns
returns c = λ p gs t program functions graphs classes a fits closed free reading. closed_plan p gs t program functions a graphs fits classes closed free reading
