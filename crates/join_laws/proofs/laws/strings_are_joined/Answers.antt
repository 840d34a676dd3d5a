use Rattle.join_laws.proofs.Joining.{strings_are_joined}
use Rattle.join_laws.proofs.laws.strings_are_joined.Goals as goal

pub returns : goal.returns
returns c = strings_are_joined
