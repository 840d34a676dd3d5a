use Rattle.ann_lift.proofs.Alike.{asked_is, asks_is}
use Rattle.ann_lift.proofs.laws.operations_ask_by_parts_alone.Goals as goal

pub returns : goal.returns
returns c = λ p a b alike f o xs node. (asked_is p a b alike f o xs node, asks_is p a b alike o xs)
