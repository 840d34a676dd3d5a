use Rattle.std.proofs.Common.{ap, arith}
use Rattle.resolver_names.specs.Nodes.{bound_values}
use Rattle.resolver_names.proofs.Making.{ok_map}
use Rattle.rpy_resolver.proofs.simple.own_target.Goals as goal

pub returns-clause-nodes : goal.returns-clause-nodes
returns-clause-nodes c = ok_map c.new.result (λ made h k. let a = ap (bound_values k) h in let g = c.in_ok-target.ensures.nodes k in omega (arith, a, g)) c.new.ensures
