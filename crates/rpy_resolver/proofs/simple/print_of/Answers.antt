use Rattle.std.proofs.Common.{◌≡◌, ◌+◌, ◌++◌, false, map, ap, ◌∙◌, arith}
use Rattle.rpy_meaning.specs.Resolved.{expr_by}
use Rattle.resolver_names.specs.Told.{the_names, tree_of}
use Rattle.rpy_meaning.specs.declared.row.RowOp.TheVariants as row
use Rattle.rpy_resolved.specs.declared.tree.Expr.TheVariants as m
use Rattle.resolver_names.specs.Nodes.{total, values}
use Rattle.resolver_names.proofs.Counting.{apply_counts, do_counts}
use Rattle.rpy_resolver.proofs.Statements.{print_whole}
use Rattle.rpy_resolver.proofs.simple.print_of.Goals as goal

pub returns-clause-tree : goal.returns-clause-tree
returns-clause-tree c = print_whole c.args.names.now c.args.n c.node-node.result c.node-node.result false c.args.es.now c.resolve_exprs.new.parts (c.in_ok-resolve_exprs.ensures.tree ∙ ap (λ us. map (tree_of c.args.names.now) us ++ map (expr_by (the_names c.args.names.now)) c.args.es.now) c.new-parts.ensures)

pub returns-clause-nodes : goal.returns-clause-nodes
returns-clause-nodes c = λ k. let d = do_counts k c.node-node.result (m.Apply c.node-node.result false row.Print c.resolve_exprs.new.parts) in let v : values k (m.Apply c.node-node.result false row.Print c.resolve_exprs.new.parts) ≡ 0 + total (map (values k) c.resolve_exprs.new.parts) = apply_counts k c.node-node.result false row.Print c.resolve_exprs.new.parts in let z : total (map (values k) c.new-parts.result) ≡ 0 = ap (λ us. total (map (values k) us)) c.new-parts.ensures in let g = c.in_ok-resolve_exprs.ensures.nodes k in omega (arith, d, v, z, g)
