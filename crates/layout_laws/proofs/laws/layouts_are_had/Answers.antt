use Rattle.layout_laws.proofs.Numbers.{layouts_are_had}
use Rattle.layout_laws.proofs.laws.layouts_are_had.Goals as goal

pub returns : goal.returns
returns c = layouts_are_had
