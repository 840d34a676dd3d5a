use Rattle.typed_blocks.proofs.Checked.{programs_are_checked}
use Rattle.typed_blocks.proofs.laws.programs_are_checked.Goals as goal

pub returns : goal.returns
returns c = programs_are_checked
