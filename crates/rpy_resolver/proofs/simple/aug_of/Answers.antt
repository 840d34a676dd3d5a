use Rattle.std.proofs.Common.{arith}
use Rattle.resolver_names.proofs.Counting.{augment_counts}
use Rattle.rpy_resolver.proofs.Statements.{aug_whole}
use Rattle.rpy_resolver.proofs.simple.aug_of.Goals as goal

pub returns-clause-tree : goal.returns-clause-tree
returns-clause-tree c = aug_whole c.args.names.now c.args.n c.node.result c.args.target.now c.args.op c.args.e.now c.in_ok-target.target c.augmented.result c.in_ok-e.e c.in_ok-target.ensures.tree c.augmented.ensures c.in_ok-e.ensures.tree

pub returns-clause-nodes : goal.returns-clause-nodes
returns-clause-nodes c = λ k. let v = augment_counts k c.node.result c.in_ok-target.target c.augmented.result c.in_ok-e.e in let g = c.in_ok-target.ensures.nodes k in let h = c.in_ok-e.ensures.nodes k in omega (arith, v, g, h)
