use Rattle.slice_laws.proofs.Slicing.{slices_are_done}
use Rattle.slice_laws.proofs.laws.slices_are_done.Goals as goal

pub returns : goal.returns
returns c = slices_are_done
