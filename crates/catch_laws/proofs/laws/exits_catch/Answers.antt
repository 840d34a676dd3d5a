use Rattle.catch_laws.proofs.Exiting.{exits_catch}
use Rattle.catch_laws.proofs.laws.exits_catch.Goals as goal

pub returns : goal.returns
returns c = exits_catch
