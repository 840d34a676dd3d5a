use Rattle.typed_programs.proofs.Parts.{parts_are_there}
use Rattle.typed_programs.proofs.laws.parts_are_there.Goals as goal

pub returns : goal.returns
returns c = parts_are_there
