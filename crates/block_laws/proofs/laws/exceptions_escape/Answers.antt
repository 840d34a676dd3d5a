use Rattle.block_laws.proofs.Escaping.{exceptions_escape}
use Rattle.block_laws.proofs.laws.exceptions_escape.Goals as goal

pub returns : goal.returns
returns c = exceptions_escape
