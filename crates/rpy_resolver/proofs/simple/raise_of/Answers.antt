use Rattle.std.proofs.Common.{arith}
use Rattle.resolver_names.proofs.Making.{ok_map}
use Rattle.rpy_resolver.proofs.Statements.{raise_whole}
use Rattle.rpy_resolver.proofs.simple.raise_of.Goals as goal

pub returns-clause-tree : goal.returns-clause-tree
returns-clause-tree c = raise_whole c.args.names.now c.args.n c.args.e.now c.in_ok-e.e c.done_by.result c.in_ok-e.ensures.tree c.done_by.ensures.tree

pub returns-clause-nodes : goal.returns-clause-nodes
returns-clause-nodes c = ok_map c.done_by.result (λ made h k. let g = h k in let e = c.in_ok-e.ensures.nodes k in omega (arith, g, e)) c.done_by.ensures.nodes
