use Rattle.graph_shapes.proofs.Beginning.{functions_begin}
use Rattle.graph_shapes.proofs.laws.functions_begin.Goals as goal

pub returns : goal.returns
returns c = functions_begin
