use Rattle.typed_programs.proofs.Operations.{operations_have_types}
use Rattle.typed_programs.proofs.laws.operations_have_types.Goals as goal

pub returns : goal.returns
returns c = operations_have_types
