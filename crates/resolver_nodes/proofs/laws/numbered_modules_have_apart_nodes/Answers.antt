use Rattle.resolver_nodes.proofs.Apart.{are_apart}
use Rattle.resolver_nodes.proofs.laws.numbered_modules_have_apart_nodes.Goals as goal

pub returns : goal.returns
returns c = are_apart
