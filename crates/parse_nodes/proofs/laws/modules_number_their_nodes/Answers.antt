use Rattle.parse_nodes.proofs.Modules.{modules_numbered}
use Rattle.parse_nodes.proofs.laws.modules_number_their_nodes.Goals as goal

pub returns : goal.returns
returns c = modules_numbered
