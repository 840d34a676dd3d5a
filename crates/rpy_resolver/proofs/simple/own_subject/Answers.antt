use Rattle.std.proofs.Common.{ap, arith}
use Rattle.resolver_names.specs.Nodes.{walked_values}
use Rattle.resolver_names.proofs.Making.{ok_map}
use Rattle.rpy_resolver.proofs.simple.own_subject.Goals as goal

pub returns-clause-nodes : goal.returns-clause-nodes
returns-clause-nodes c = ok_map c.new.result (λ made h k. let a = ap (walked_values k) h in let g = c.in_ok-subject.ensures.nodes k in omega (arith, a, g)) c.new.ensures
