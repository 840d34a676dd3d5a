use Rattle.ann_lifted.proofs.Whole.{lifted, lifted_formed, is_lifted}
use Rattle.ann_lifted.proofs.laws.closed_trees_can_be_lifted.Goals as goal

pub returns : goal.returns
returns c = λ p sites a gs program functions classes graphs ops reads closed formed. (
  lifted p sites a gs program functions classes graphs ops reads closed formed,
  lifted_formed p sites a gs program functions classes graphs ops reads closed formed,
  is_lifted p sites a gs program functions classes graphs ops reads closed formed,
)
