use Rattle.layout_laws.proofs.Typed.{structs_are_typed}
use Rattle.layout_laws.proofs.laws.structs_are_typed.Goals as goal

pub returns : goal.returns
returns c = structs_are_typed
