use Rattle.std.proofs.Common.{arith}
use Rattle.resolver_names.proofs.Counting.{do_counts}
use Rattle.rpy_resolver.proofs.Statements.{do_whole}
use Rattle.rpy_resolver.proofs.simple.do_of.Goals as goal

pub returns-clause-tree : goal.returns-clause-tree
returns-clause-tree c = do_whole c.args.names.now c.args.n c.node.result c.args.e.now c.in_ok-e.e c.in_ok-e.ensures.tree

pub returns-clause-nodes : goal.returns-clause-nodes
returns-clause-nodes c = λ k. let v = do_counts k c.node.result c.in_ok-e.e in let g = c.in_ok-e.ensures.nodes k in omega (arith, v, g)
