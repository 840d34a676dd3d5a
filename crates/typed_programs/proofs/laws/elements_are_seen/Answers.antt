use Rattle.typed_programs.proofs.Seeing.{elements_are_seen}
use Rattle.typed_programs.proofs.laws.elements_are_seen.Goals as goal

pub returns : goal.returns
returns c = elements_are_seen
