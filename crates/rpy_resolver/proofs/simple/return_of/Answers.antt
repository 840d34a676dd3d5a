use Rattle.std.proofs.Common.{◌≡◌, [], false, ap, ◌∙◌, arith}
use Rattle.rpy_meaning.specs.Resolved.{alone}
use Rattle.rpy_resolved.specs.declared.tree.Stmt.TheVariants as made
use Rattle.resolver_names.specs.Told.{the_names, stmt_tree}
use Rattle.rpy_meaning.specs.declared.row.RowOp.TheVariants as row
use Rattle.resolver_names.specs.Nodes.{values, nodes_if}
use Rattle.resolver_names.proofs.Counting.{apply_counts, return_counts}
use Rattle.rpy_resolver.proofs.Statements.{return_none, return_whole}
use Rattle.rpy_resolver.proofs.simple.return_of.Goals as goal

pub returns-in-None-clause-tree : goal.returns-in-None-clause-tree
returns-in-None-clause-tree c = ap (λ x. alone (the_names c.args.names.now) (stmt_tree c.args.names.now (made.Return c.node-node.result x))) c.leaf.ensures ∙ return_none c.args.names.now c.args.n c.node-node.result false c.args.e.now c.in-None.is

pub returns-in_ok-resolve_expr-in-Some-clause-tree : goal.returns-in_ok-resolve_expr-in-Some-clause-tree
returns-in_ok-resolve_expr-in-Some-clause-tree c = return_whole c.args.names.now c.args.n c.node-node.result c.args.e.now c.in-Some.e c.in_ok-resolve_expr-in-Some.field-0 c.in-Some.is c.in_ok-resolve_expr-in-Some.ensures.tree

pub returns-in-None-clause-nodes : goal.returns-in-None-clause-nodes
returns-in-None-clause-nodes c = λ k. let v = return_counts k c.node-node.result c.leaf.result in let l : values k c.leaf.result ≡ 0 = ap (values k) c.leaf.ensures ∙ apply_counts k c.node-node.result false row.None [] in omega (arith, v, l)

pub returns-in_ok-resolve_expr-in-Some-clause-nodes : goal.returns-in_ok-resolve_expr-in-Some-clause-nodes
returns-in_ok-resolve_expr-in-Some-clause-nodes c = λ k. let v = return_counts k c.node-node.result c.in_ok-resolve_expr-in-Some.field-0 in let e = ap (nodes_if k c.args.names.now.first) c.in-Some.is in let g = c.in_ok-resolve_expr-in-Some.ensures.nodes k in omega (arith, v, e, g)
