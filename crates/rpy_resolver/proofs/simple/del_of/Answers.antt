use Rattle.std.proofs.Common.{◌≡◌, ◌+◌, ◌++◌, [], ◌∷◌, false, map, ap, ◌∙◌, arith}
use Rattle.rpy_meaning.specs.declared.row.RowOp.TheVariants as row
use Rattle.rpy_resolved.specs.declared.tree.Expr.TheVariants as m
use Rattle.resolver_names.specs.Nodes.{total, values}
use Rattle.resolver_names.proofs.Counting.{apply_counts, do_counts}
use Rattle.rpy_resolver.proofs.Statements.{del_whole}
use Rattle.rpy_resolver.proofs.simple.del_of.Goals as goal

pub returns-clause-tree : goal.returns-clause-tree
returns-clause-tree c = del_whole c.args.names.now c.args.n c.node-node.result c.node-node.result false c.args.a.now c.args.i.now c.in_ok-a.a c.in_ok-i.i c.push-2.new.self c.in_ok-a.ensures.tree c.in_ok-i.ensures.tree (c.in_ok-push-2.ensures.ok ∙ ap (λ us. us ++ c.in_ok-i.i ∷ []) (c.in_ok-push.ensures.ok ∙ ap (λ us. us ++ c.in_ok-a.a ∷ []) c.new-parts.ensures))

pub returns-clause-nodes : goal.returns-clause-nodes
returns-clause-nodes c = λ k. let d = do_counts k c.node-node.result (m.Apply c.node-node.result false row.DeleteIndex c.push-2.new.self) in let v : values k (m.Apply c.node-node.result false row.DeleteIndex c.push-2.new.self) ≡ 0 + total (map (values k) c.push-2.new.self) = apply_counts k c.node-node.result false row.DeleteIndex c.push-2.new.self in let z : total (map (values k) c.push-2.new.self) ≡ values k c.in_ok-a.a + (values k c.in_ok-i.i + 0) = ap (λ us. total (map (values k) us)) (c.in_ok-push-2.ensures.ok ∙ ap (λ us. us ++ c.in_ok-i.i ∷ []) (c.in_ok-push.ensures.ok ∙ ap (λ us. us ++ c.in_ok-a.a ∷ []) c.new-parts.ensures)) in let g = c.in_ok-a.ensures.nodes k in let h = c.in_ok-i.ensures.nodes k in omega (arith, d, v, z, g, h)
