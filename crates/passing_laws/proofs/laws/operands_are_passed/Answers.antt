use Rattle.passing_laws.proofs.Operands.{operands_are_passed}
use Rattle.passing_laws.proofs.laws.operands_are_passed.Goals as goal

pub returns : goal.returns
returns c = operands_are_passed
