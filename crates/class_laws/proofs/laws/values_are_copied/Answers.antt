use Rattle.class_laws.proofs.Copied.{copies_are_done}
use Rattle.class_laws.proofs.laws.values_are_copied.Goals as goal

pub returns : goal.returns
returns c = copies_are_done
