use Rattle.ann_rules.proofs.Mono.{grown_by_rules}
use Rattle.ann_rules.proofs.laws.what_graphs_grow_is_least.Goals as goal

pub returns : goal.returns
returns c = grown_by_rules
