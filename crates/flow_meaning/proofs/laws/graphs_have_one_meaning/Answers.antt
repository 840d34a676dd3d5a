use Rattle.flow_meaning.proofs.One.{one_meaning}
use Rattle.flow_meaning.proofs.laws.graphs_have_one_meaning.Goals as goal

pub returns : goal.returns
returns c p gs args n r q e f = one_meaning p gs args n r q e f
