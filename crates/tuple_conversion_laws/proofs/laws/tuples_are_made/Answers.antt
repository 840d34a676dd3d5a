use Rattle.tuple_conversion_laws.proofs.Made.{tuples_are_made}
use Rattle.tuple_conversion_laws.proofs.laws.tuples_are_made.Goals as goal

pub returns : goal.returns
returns c = tuples_are_made
