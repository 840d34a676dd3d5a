use Rattle.ann_rules.proofs.Mono.{rules_monotone}
use Rattle.ann_rules.proofs.laws.rules_are_monotone.Goals as goal

pub returns : goal.returns
returns c = rules_monotone
