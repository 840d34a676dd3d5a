use Rattle.value_rows.proofs.Literals.{turns}
use Rattle.value_rows.proofs.laws.turns_are_written.Goals as goal

pub returns : goal.returns
returns c = turns
