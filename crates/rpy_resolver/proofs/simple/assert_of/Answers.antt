use Rattle.std.proofs.Common.{◌≡◌, [], false, ap, ◌∙◌, arith}
use Rattle.rpy_meaning.specs.Resolved.{alone}
use Rattle.rpy_resolved.specs.declared.tree.Stmt.TheVariants as made
use Rattle.resolver_names.specs.Told.{the_names, stmt_tree}
use Rattle.rpy_meaning.specs.declared.row.RowOp.TheVariants as row
use Rattle.resolver_names.specs.Nodes.{values, block_values}
use Rattle.resolver_names.proofs.Counting.{apply_counts, if_counts}
use Rattle.rpy_resolver.proofs.Statements.{assert_whole}
use Rattle.rpy_resolver.proofs.simple.assert_of.Goals as goal

pub returns-clause-tree : goal.returns-clause-tree
returns-clause-tree c = ap (λ us. alone (the_names c.args.names.now) (stmt_tree c.args.names.now (made.If c.node-node.result c.in_ok-test.test us c.in_ok-other.other))) c.new.ensures ∙ assert_whole c.args.names.now c.args.n c.node-node.result c.args.e.now c.in_ok-test.test c.leaf-error.result c.in_ok-raise.raise c.in_ok-other.other false c.in_ok-test.ensures.tree c.leaf-error.ensures c.in_ok-raise.ensures.tree c.in_ok-other.ensures

pub returns-clause-nodes : goal.returns-clause-nodes
returns-clause-nodes c = λ k. let v = if_counts k c.node-node.result c.in_ok-test.test c.new.result c.in_ok-other.other in let z = ap (block_values k) c.new.ensures in let o = ap (block_values k) c.in_ok-other.ensures in let l : values k c.leaf-error.result ≡ 0 = ap (values k) c.leaf-error.ensures ∙ apply_counts k c.node-node.result false (row.New 10) [] in let r = c.in_ok-raise.ensures.nodes k in let g = c.in_ok-test.ensures.nodes k in omega (arith, v, z, o, l, r, g)
