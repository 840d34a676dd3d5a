use Rattle.growth_laws.proofs.Classes.{lower_class_op_grows}
use Rattle.growth_laws.proofs.laws.classes_only_ask.Goals as goal

pub returns : goal.returns
returns c = lower_class_op_grows
