use Rattle.layout_laws.proofs.Builtin.{exceptions_begin}
use Rattle.layout_laws.proofs.laws.exceptions_begin.Goals as goal

pub returns : goal.returns
returns c = exceptions_begin
