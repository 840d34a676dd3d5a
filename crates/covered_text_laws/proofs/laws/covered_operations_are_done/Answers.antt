use Rattle.covered_text_laws.proofs.Bridged.{covered_is_done}
use Rattle.covered_text_laws.proofs.laws.covered_operations_are_done.Goals as goal

pub returns : goal.returns
returns c = covered_is_done
