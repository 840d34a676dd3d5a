-- What each statement says: the parts that are made, and what the meaning makes of it.
use Rattle.std.proofs.Common.{◌≡◌, ◌+◌, ◌-◌, ◌*◌, ◌∷◌, length, map, take, drop, Some, refl, sym, ap, ◌∙◌, arith}
use Rattle.std.proofs.lemmas.List.Sums.{sum_by-cons}
use Rattle.std.specs.Prelude.{sum_by}
use Rattle.std.specs.Option.{option_map_or}
use Rattle.rpy_tree.specs.Size.{stmt_nodes as stmt_size, body_nodes, clause_nodes as clause_size}
use Rattle.rpy_tree.specs.declared.syntax.Stmt.TheVariants as s
use Rattle.rpy_meaning.specs.Resolved as meaning
use Rattle.rpy_meaning.specs.Resolved.{expr_by, stmt_by, onto, joined}
use Rattle.rpy_meaning.specs.Tree as tree
use Rattle.resolved_laws.specs.Meant.{classes_of as classes_in, local_of as local_in}
use Rattle.rpy_resolved.specs.declared.tree.Stmt.TheVariants as mc
use Rattle.resolver_names.specs.Nodes.{total, done_values, caught_values, block_values, stmt_nodes, clause_nodes, block_nodes, arm_nodes, last_nodes}
use Rattle.resolver_names.proofs.Counting.{total_push, pass_counts, break_counts, continue_counts, while_counts, for_counts, try_counts, finally_counts, if_counts, clause_counts, pass_nodes, break_nodes, continue_nodes, return_nodes, raise_nodes, assert_nodes, del_nodes, print_nodes, assign_nodes, aug_nodes, do_nodes, if_nodes, while_nodes, for_nodes, try_nodes, clause_has}
use Rattle.resolver_names.proofs.Making.{ok_map}
use Rattle.resolver_names.specs.Told.{the_names, block_tree, caught_tree, caught_by, arm_by}
use Rattle.resolver_laws.proofs.Stating.{joined_on, onto_done}
use Rattle.rpy_resolver.proofs.Counts.{put_counted, one_more_counted, none_left}
use Rattle.rpy_resolver.proofs.Forms.{on_map, one_more, drop_at, drop_all, first_rest}
use Rattle.rpy_resolver.proofs.Statements.{pass_put, break_put, continue_put, put_said, if_said, try_said, finally_put, tried_put, body_put, first_put, no_arms, while_whole, for_whole, finally_whole, try_whole, arm_whole, if_whole, clause_whole}
use Rattle.rpy_resolver.proofs.Sizes.{item_less}
use Rattle.rpy_resolver.proofs.Bodies.{arm_size, while_size, for_size, try_size, clause_is}
use Rattle.rpy_resolver.proofs.statement.+stmt.Goals as goal

pub resolve_stmt-returns-in-Pass-clause-tree : goal.resolve_stmt-returns-in-Pass-clause-tree
resolve_stmt-returns-in-Pass-clause-tree t c = on_map c.push.result (λ is. pass_put c.args.names.now c.in-Pass.n c.node.result c.args.s.now c.args.block.now c.push.new.self c.in-Pass.is is) c.push.ensures.ok

pub resolve_stmt-returns-in-Break-clause-tree : goal.resolve_stmt-returns-in-Break-clause-tree
resolve_stmt-returns-in-Break-clause-tree t c = on_map c.push-in-Break.result (λ is. break_put c.args.names.now c.in-Break.n c.node-in-Break.result c.args.s.now c.args.block.now c.push-in-Break.new.self c.in-Break.is is) c.push-in-Break.ensures.ok

pub resolve_stmt-returns-in-Continue-clause-tree : goal.resolve_stmt-returns-in-Continue-clause-tree
resolve_stmt-returns-in-Continue-clause-tree t c = on_map c.push-in-Continue.result (λ is. continue_put c.args.names.now c.in-Continue.n c.node-in-Continue.result c.args.s.now c.args.block.now c.push-in-Continue.new.self c.in-Continue.is is) c.push-in-Continue.ensures.ok

pub resolve_stmt-returns-in-Return-clause-tree : goal.resolve_stmt-returns-in-Return-clause-tree
resolve_stmt-returns-in-Return-clause-tree t c = on_map c.put.result (λ h. put_said c.args.names.now c.args.s.now (s.Return c.in-Return.n c.in-Return.e) c.args.block.now c.put.new.block c.return_of.result c.in-Return.is h c.return_of.ensures.tree) c.put.ensures

pub resolve_stmt-returns-in-Raise-clause-tree : goal.resolve_stmt-returns-in-Raise-clause-tree
resolve_stmt-returns-in-Raise-clause-tree t c = on_map c.put-in-Raise.result (λ h. put_said c.args.names.now c.args.s.now (s.Raise c.in-Raise.n c.in-Raise.e) c.args.block.now c.put-in-Raise.new.block c.raise_of.result c.in-Raise.is h c.raise_of.ensures.tree) c.put-in-Raise.ensures

pub resolve_stmt-returns-in-Assert-clause-tree : goal.resolve_stmt-returns-in-Assert-clause-tree
resolve_stmt-returns-in-Assert-clause-tree t c = on_map c.put-in-Assert.result (λ h. put_said c.args.names.now c.args.s.now (s.Assert c.in-Assert.n c.in-Assert.e) c.args.block.now c.put-in-Assert.new.block c.assert_of.result c.in-Assert.is h c.assert_of.ensures.tree) c.put-in-Assert.ensures

pub resolve_stmt-returns-in-Del-clause-tree : goal.resolve_stmt-returns-in-Del-clause-tree
resolve_stmt-returns-in-Del-clause-tree t c = on_map c.put-in-Del.result (λ h. put_said c.args.names.now c.args.s.now (s.Del c.in-Del.n c.in-Del.a c.in-Del.i) c.args.block.now c.put-in-Del.new.block c.del_of.result c.in-Del.is h c.del_of.ensures.tree) c.put-in-Del.ensures

pub resolve_stmt-returns-in-Print-clause-tree : goal.resolve_stmt-returns-in-Print-clause-tree
resolve_stmt-returns-in-Print-clause-tree t c = on_map c.put-in-Print.result (λ h. put_said c.args.names.now c.args.s.now (s.Print c.in-Print.n c.as_slice.result.now) c.args.block.now c.put-in-Print.new.block c.print_of.result (c.in-Print.is ∙ ap (s.Print c.in-Print.n) (sym c.as_slice.ensures)) h c.print_of.ensures.tree) c.put-in-Print.ensures

pub resolve_stmt-returns-in-Assign-clause-tree : goal.resolve_stmt-returns-in-Assign-clause-tree
resolve_stmt-returns-in-Assign-clause-tree t c = on_map c.put-in-Assign.result (λ h. put_said c.args.names.now c.args.s.now (s.Assign c.in-Assign.n c.as_slice-in-Assign.result.now c.in-Assign.e) c.args.block.now c.put-in-Assign.new.block c.assign_of.result (c.in-Assign.is ∙ ap (λ x. s.Assign c.in-Assign.n x c.in-Assign.e) (sym c.as_slice-in-Assign.ensures)) h c.assign_of.ensures.tree) c.put-in-Assign.ensures

pub resolve_stmt-returns-in-Aug-clause-tree : goal.resolve_stmt-returns-in-Aug-clause-tree
resolve_stmt-returns-in-Aug-clause-tree t c = on_map c.put-in-Aug.result (λ h. put_said c.args.names.now c.args.s.now (s.Aug c.in-Aug.n c.in-Aug.target c.in-Aug.op c.in-Aug.e) c.args.block.now c.put-in-Aug.new.block c.aug_of.result c.in-Aug.is h c.aug_of.ensures.tree) c.put-in-Aug.ensures

pub resolve_stmt-returns-in-Expr-clause-tree : goal.resolve_stmt-returns-in-Expr-clause-tree
resolve_stmt-returns-in-Expr-clause-tree t c = on_map c.put-in-Expr.result (λ h. put_said c.args.names.now c.args.s.now (s.Expr c.in-Expr.n c.in-Expr.e) c.args.block.now c.put-in-Expr.new.block c.do_of.result c.in-Expr.is h c.do_of.ensures.tree) c.put-in-Expr.ensures

pub resolve_stmt-returns-in-While-clause-tree : goal.resolve_stmt-returns-in-While-clause-tree
resolve_stmt-returns-in-While-clause-tree t c = on_map c.put-in-While.result (λ h. put_said c.args.names.now c.args.s.now (s.While c.in-While.n c.in-While.test c.as_slice-in-While.result.now) c.args.block.now c.put-in-While.new.block c.resolve_while.result (c.in-While.is ∙ ap (s.While c.in-While.n c.in-While.test) (sym c.as_slice-in-While.ensures)) h c.resolve_while.ensures.tree) c.put-in-While.ensures

pub resolve_stmt-returns-in-For-clause-tree : goal.resolve_stmt-returns-in-For-clause-tree
resolve_stmt-returns-in-For-clause-tree t c = on_map c.put-in-For.result (λ h. put_said c.args.names.now c.args.s.now (s.For c.in-For.n c.in-For.target c.in-For.over c.as_slice-in-For.result.now) c.args.block.now c.put-in-For.new.block c.resolve_for.result (c.in-For.is ∙ ap (s.For c.in-For.n c.in-For.target c.in-For.over) (sym c.as_slice-in-For.ensures)) h c.resolve_for.ensures.tree) c.put-in-For.ensures

pub resolve_stmt-returns-in-If-clause-tree : goal.resolve_stmt-returns-in-If-clause-tree
resolve_stmt-returns-in-If-clause-tree t c = on_map c.resolve_branches.result (λ h. h ∙ ap (onto (the_names c.args.names.now) (block_tree c.args.names.now c.args.block.now)) (if_said c.args.names.now c.args.s.now c.in-If.n c.as_slice-in-If.result.now c.as_slice-in-If-2.result.now (c.in-If.is ∙ (λ i. s.If c.in-If.n (sym c.as_slice-in-If.ensures i) (sym c.as_slice-in-If-2.ensures i))))) c.resolve_branches.ensures.tree

pub resolve_stmt-returns-in-Try-clause-tree : goal.resolve_stmt-returns-in-Try-clause-tree
resolve_stmt-returns-in-Try-clause-tree t c = on_map c.resolve_tried.result (λ h. h ∙ ap (λ x. onto (the_names c.args.names.now) (block_tree c.args.names.now c.args.block.now) (stmt_by (the_names c.args.names.now) x)) (sym (c.in-Try.is ∙ (λ i. s.Try c.in-Try.n (sym c.as_slice-in-Try.ensures i) (sym c.as_slice-clauses.ensures i) (sym c.as_slice-in-Try-2.ensures i) c.in-Try.last)))) c.resolve_tried.ensures.tree

pub resolve_branches-returns-in-empty-clause-tree : goal.resolve_branches-returns-in-empty-clause-tree
resolve_branches-returns-in-empty-clause-tree t c = on_map c.resolve_into.result (λ h. h ∙ ap (onto (the_names c.args.names.now) (block_tree c.args.names.now c.args.block.now)) (no_arms c.args.names.now c.args.arms.now c.args.other.now (omega arith))) c.resolve_into.ensures.tree

pub resolve_branches-returns-in-len1-up-clause-tree : goal.resolve_branches-returns-in-len1-up-clause-tree
resolve_branches-returns-in-len1-up-clause-tree t c = on_map c.put.result (λ h. first_put c.args.names.now c.args.arms.now _ c.arm-item.result c.args.other.now c.args.block.now c.put.new.block c.resolve_if.result (first_rest c.args.arms.now c.arm-item.result (omega arith) c.arm-item.is) h c.resolve_if.ensures.tree) c.put.ensures

pub resolve_while-returns-clause-tree : goal.resolve_while-returns-clause-tree
resolve_while-returns-clause-tree t c = while_whole c.args.names.now c.args.n c.node.result c.args.test.now c.args.body.now c.in_ok-test.test c.in_ok-body.body c.in_ok-test.ensures.tree c.in_ok-body.ensures.tree

pub resolve_for-returns-clause-tree : goal.resolve_for-returns-clause-tree
resolve_for-returns-clause-tree t c = for_whole c.args.names.now c.args.n c.node.result c.args.target.now c.args.over.now c.args.body.now c.in_ok-target.target c.in_ok-subject.subject c.in_ok-body.body c.in_ok-target.ensures.tree c.in_ok-subject.ensures.tree c.in_ok-body.ensures.tree

pub resolve_finally-returns-clause-tree : goal.resolve_finally-returns-clause-tree
resolve_finally-returns-clause-tree t c = finally_whole c.args.names.now c.node.result c.args.tried c.in_ok-last.last _ c.in_ok-last.ensures.tree

pub resolve_tried-returns-in-None-clause-tree : goal.resolve_tried-returns-in-None-clause-tree
resolve_tried-returns-in-None-clause-tree t c = on_map c.resolve_try.result (λ h. h ∙ ap (onto (the_names c.args.names.now) (block_tree c.args.names.now c.args.block.now)) (try_said c.args.names.now c.args.n c.args.body.now c.args.clauses.now c.args.other.now c.args.last.now c.in-None.is)) c.resolve_try.ensures.tree

pub resolve_tried-returns-in_ok-resolve_try-in-Some-clause-tree : goal.resolve_tried-returns-in_ok-resolve_try-in-Some-clause-tree
resolve_tried-returns-in_ok-resolve_try-in-Some-clause-tree t c = on_map c.put.result (λ h. finally_put c.args.names.now c.args.n c.args.body.now c.args.clauses.now c.args.other.now c.args.last.now c.as_slice.result.now c.resolve_try-in-Some.new.block c.args.block.now c.put.new.block c.resolve_finally.result (c.in-Some.is ∙ ap Some (sym c.as_slice.ensures)) (c.in_ok-resolve_try-in-Some.ensures.tree ∙ ap (λ us. onto (the_names c.args.names.now) (block_tree c.args.names.now us) (meaning.try_of (the_names c.args.names.now) (joined (the_names c.args.names.now) (map (stmt_by (the_names c.args.names.now)) c.args.body.now)) (map (caught_by (the_names c.args.names.now)) c.args.clauses.now) (joined (the_names c.args.names.now) (map (stmt_by (the_names c.args.names.now)) c.args.other.now)))) c.new-tried.ensures) h c.resolve_finally.ensures.tree) c.put.ensures

pub resolve_try-returns-in-empty-clause-tree : goal.resolve_try-returns-in-empty-clause-tree
resolve_try-returns-in-empty-clause-tree t c = on_map c.resolve_into.result (λ h. h ∙ ap (onto (the_names c.args.names.now) (block_tree c.args.names.now c.args.block.now)) (body_put c.args.names.now _ _ c.args.clauses.now _ (omega arith) refl)) c.resolve_into.ensures.tree

pub resolve_try-returns-in-len1-up-clause-tree : goal.resolve_try-returns-in-len1-up-clause-tree
resolve_try-returns-in-len1-up-clause-tree t c = on_map c.put.result (λ h. tried_put c.args.names.now _ c.args.clauses.now _ c.args.block.now c.put.new.block c.resolve_clauses_of.result (omega arith) h c.resolve_clauses_of.ensures.tree) c.put.ensures

pub resolve_clauses_of-returns-clause-tree : goal.resolve_clauses_of-returns-clause-tree
resolve_clauses_of-returns-clause-tree t c = try_whole c.args.names.now c.node.result c.in_ok-body.body c.in_ok-clauses.clauses c.in_ok-other.other _ _ _ c.in_ok-body.ensures.tree c.in_ok-clauses.ensures.tree c.in_ok-other.ensures.tree

pub resolve_arm-returns-clause-tree : goal.resolve_arm-returns-clause-tree
resolve_arm-returns-clause-tree t c = arm_whole c.args.names.now c.node.result c.in_ok-test.test c.in_ok-body.body c.args.other _ _ c.alone_in.result c.in_ok-test.ensures.tree (c.in_ok-body.ensures.tree ∙ ap (λ us. joined (the_names c.args.names.now) (map (stmt_by (the_names c.args.names.now)) us)) c.as_slice.ensures) c.alone_in.ensures

pub resolve_if-returns-clause-tree : goal.resolve_if-returns-clause-tree
resolve_if-returns-clause-tree t c = if_whole c.args.names.now c.node.result c.in_ok-test.test c.in_ok-body.body c.in_ok-further.further _ _ _ c.in_ok-test.ensures.tree (c.in_ok-body.ensures.tree ∙ ap (λ us. joined (the_names c.args.names.now) (map (stmt_by (the_names c.args.names.now)) us)) c.as_slice.ensures) c.in_ok-further.ensures.tree

pub resolve_clause-returns-clause-tree : goal.resolve_clause-returns-clause-tree
resolve_clause-returns-clause-tree t c = clause_whole c.args.names.now c.args.clause.now c.node.result c.in_ok-classes.classes c.local_of-local.result c.in_ok-body.body (c.in_ok-classes.ensures ∙ ap classes_in c.clause-info.ensures) (c.local_of-local.ensures ∙ ap local_in c.clause-info.ensures) (c.in_ok-body.ensures.tree ∙ ap (λ us. joined (the_names c.args.names.now) (map (stmt_by (the_names c.args.names.now)) us)) c.as_slice.ensures)

pub resolve_into-returns-clause-tree : goal.resolve_into-returns-clause-tree
resolve_into-returns-clause-tree t c = sym (onto_done c.args.names.now.program.now.sites (the_names c.args.names.now) (block_tree c.args.names.now c.loop-s.block)) ∙ ap (λ us. onto (the_names c.args.names.now) (block_tree c.args.names.now c.loop-s.block) (joined (the_names c.args.names.now) (map (stmt_by (the_names c.args.names.now)) us))) (sym (drop_all c.args.body.now c.loop-s.s-index (omega (arith, c.loop-s-test.false)))) ∙ c.loop-s.invariant.0

-- ---- nodes

pub resolve_stmt-returns-in-Pass-clause-nodes : goal.resolve_stmt-returns-in-Pass-clause-nodes
resolve_stmt-returns-in-Pass-clause-nodes t c = on_map c.push.result (λ is k. let e = ap (stmt_nodes k c.args.names.now.first) c.in-Pass.is ∙ pass_nodes k c.args.names.now.first c.in-Pass.n in let p = ap (block_values k) is ∙ total_push (done_values k) c.args.block.now (mc.Pass c.node.result) in let d = pass_counts k c.node.result in omega (arith, e, p, d)) c.push.ensures.ok

pub resolve_stmt-returns-in-Break-clause-nodes : goal.resolve_stmt-returns-in-Break-clause-nodes
resolve_stmt-returns-in-Break-clause-nodes t c = on_map c.push-in-Break.result (λ is k. let e = ap (stmt_nodes k c.args.names.now.first) c.in-Break.is ∙ break_nodes k c.args.names.now.first c.in-Break.n in let p = ap (block_values k) is ∙ total_push (done_values k) c.args.block.now (mc.Break c.node-in-Break.result) in let d = break_counts k c.node-in-Break.result in omega (arith, e, p, d)) c.push-in-Break.ensures.ok

pub resolve_stmt-returns-in-Continue-clause-nodes : goal.resolve_stmt-returns-in-Continue-clause-nodes
resolve_stmt-returns-in-Continue-clause-nodes t c = on_map c.push-in-Continue.result (λ is k. let e = ap (stmt_nodes k c.args.names.now.first) c.in-Continue.is ∙ continue_nodes k c.args.names.now.first c.in-Continue.n in let p = ap (block_values k) is ∙ total_push (done_values k) c.args.block.now (mc.Continue c.node-in-Continue.result) in let d = continue_counts k c.node-in-Continue.result in omega (arith, e, p, d)) c.push-in-Continue.ensures.ok

pub resolve_stmt-returns-in-Return-clause-nodes : goal.resolve_stmt-returns-in-Return-clause-nodes
resolve_stmt-returns-in-Return-clause-nodes t c = on_map c.put.result (λ h k. let e = ap (stmt_nodes k c.args.names.now.first) (c.in-Return.is) ∙ return_nodes k c.args.names.now.first c.in-Return.n c.in-Return.e in let p = put_counted k c.return_of.result c.args.block.now c.put.new.block _ h (ok_map c.return_of.result (λ made g. g k) c.return_of.ensures.nodes) in omega (arith, e, p)) c.put.ensures

pub resolve_stmt-returns-in-Raise-clause-nodes : goal.resolve_stmt-returns-in-Raise-clause-nodes
resolve_stmt-returns-in-Raise-clause-nodes t c = on_map c.put-in-Raise.result (λ h k. let e = ap (stmt_nodes k c.args.names.now.first) (c.in-Raise.is) ∙ raise_nodes k c.args.names.now.first c.in-Raise.n c.in-Raise.e in let p = put_counted k c.raise_of.result c.args.block.now c.put-in-Raise.new.block _ h (ok_map c.raise_of.result (λ made g. g k) c.raise_of.ensures.nodes) in omega (arith, e, p)) c.put-in-Raise.ensures

pub resolve_stmt-returns-in-Assert-clause-nodes : goal.resolve_stmt-returns-in-Assert-clause-nodes
resolve_stmt-returns-in-Assert-clause-nodes t c = on_map c.put-in-Assert.result (λ h k. let e = ap (stmt_nodes k c.args.names.now.first) (c.in-Assert.is) ∙ assert_nodes k c.args.names.now.first c.in-Assert.n c.in-Assert.e in let p = put_counted k c.assert_of.result c.args.block.now c.put-in-Assert.new.block _ h (ok_map c.assert_of.result (λ made g. g k) c.assert_of.ensures.nodes) in omega (arith, e, p)) c.put-in-Assert.ensures

pub resolve_stmt-returns-in-Del-clause-nodes : goal.resolve_stmt-returns-in-Del-clause-nodes
resolve_stmt-returns-in-Del-clause-nodes t c = on_map c.put-in-Del.result (λ h k. let e = ap (stmt_nodes k c.args.names.now.first) (c.in-Del.is) ∙ del_nodes k c.args.names.now.first c.in-Del.n c.in-Del.a c.in-Del.i in let p = put_counted k c.del_of.result c.args.block.now c.put-in-Del.new.block _ h (ok_map c.del_of.result (λ made g. g k) c.del_of.ensures.nodes) in omega (arith, e, p)) c.put-in-Del.ensures

pub resolve_stmt-returns-in-Print-clause-nodes : goal.resolve_stmt-returns-in-Print-clause-nodes
resolve_stmt-returns-in-Print-clause-nodes t c = on_map c.put-in-Print.result (λ h k. let e = ap (stmt_nodes k c.args.names.now.first) (c.in-Print.is ∙ ap (s.Print c.in-Print.n) (sym c.as_slice.ensures)) ∙ print_nodes k c.args.names.now.first c.in-Print.n c.as_slice.result.now in let p = put_counted k c.print_of.result c.args.block.now c.put-in-Print.new.block _ h (ok_map c.print_of.result (λ made g. g k) c.print_of.ensures.nodes) in omega (arith, e, p)) c.put-in-Print.ensures

pub resolve_stmt-returns-in-Assign-clause-nodes : goal.resolve_stmt-returns-in-Assign-clause-nodes
resolve_stmt-returns-in-Assign-clause-nodes t c = on_map c.put-in-Assign.result (λ h k. let e = ap (stmt_nodes k c.args.names.now.first) (c.in-Assign.is ∙ ap (λ x. s.Assign c.in-Assign.n x c.in-Assign.e) (sym c.as_slice-in-Assign.ensures)) ∙ assign_nodes k c.args.names.now.first c.in-Assign.n c.as_slice-in-Assign.result.now c.in-Assign.e in let p = put_counted k c.assign_of.result c.args.block.now c.put-in-Assign.new.block _ h (ok_map c.assign_of.result (λ made g. g k) c.assign_of.ensures.nodes) in omega (arith, e, p)) c.put-in-Assign.ensures

pub resolve_stmt-returns-in-Aug-clause-nodes : goal.resolve_stmt-returns-in-Aug-clause-nodes
resolve_stmt-returns-in-Aug-clause-nodes t c = on_map c.put-in-Aug.result (λ h k. let e = ap (stmt_nodes k c.args.names.now.first) (c.in-Aug.is) ∙ aug_nodes k c.args.names.now.first c.in-Aug.n c.in-Aug.target c.in-Aug.op c.in-Aug.e in let p = put_counted k c.aug_of.result c.args.block.now c.put-in-Aug.new.block _ h (ok_map c.aug_of.result (λ made g. g k) c.aug_of.ensures.nodes) in omega (arith, e, p)) c.put-in-Aug.ensures

pub resolve_stmt-returns-in-Expr-clause-nodes : goal.resolve_stmt-returns-in-Expr-clause-nodes
resolve_stmt-returns-in-Expr-clause-nodes t c = on_map c.put-in-Expr.result (λ h k. let e = ap (stmt_nodes k c.args.names.now.first) (c.in-Expr.is) ∙ do_nodes k c.args.names.now.first c.in-Expr.n c.in-Expr.e in let p = put_counted k c.do_of.result c.args.block.now c.put-in-Expr.new.block _ h (ok_map c.do_of.result (λ made g. g k) c.do_of.ensures.nodes) in omega (arith, e, p)) c.put-in-Expr.ensures

pub resolve_stmt-returns-in-While-clause-nodes : goal.resolve_stmt-returns-in-While-clause-nodes
resolve_stmt-returns-in-While-clause-nodes t c = on_map c.put-in-While.result (λ h k. let e = ap (stmt_nodes k c.args.names.now.first) (c.in-While.is ∙ ap (s.While c.in-While.n c.in-While.test) (sym c.as_slice-in-While.ensures)) ∙ while_nodes k c.args.names.now.first c.in-While.n c.in-While.test c.as_slice-in-While.result.now in let p = put_counted k c.resolve_while.result c.args.block.now c.put-in-While.new.block _ h (ok_map c.resolve_while.result (λ made g. g k) c.resolve_while.ensures.nodes) in omega (arith, e, p)) c.put-in-While.ensures

pub resolve_stmt-returns-in-For-clause-nodes : goal.resolve_stmt-returns-in-For-clause-nodes
resolve_stmt-returns-in-For-clause-nodes t c = on_map c.put-in-For.result (λ h k. let e = ap (stmt_nodes k c.args.names.now.first) (c.in-For.is ∙ ap (s.For c.in-For.n c.in-For.target c.in-For.over) (sym c.as_slice-in-For.ensures)) ∙ for_nodes k c.args.names.now.first c.in-For.n c.in-For.target c.in-For.over c.as_slice-in-For.result.now in let p = put_counted k c.resolve_for.result c.args.block.now c.put-in-For.new.block _ h (ok_map c.resolve_for.result (λ made g. g k) c.resolve_for.ensures.nodes) in omega (arith, e, p)) c.put-in-For.ensures

pub resolve_stmt-returns-in-If-clause-nodes : goal.resolve_stmt-returns-in-If-clause-nodes
resolve_stmt-returns-in-If-clause-nodes t c = on_map c.resolve_branches.result (λ h k. let e = ap (stmt_nodes k c.args.names.now.first) (c.in-If.is ∙ (λ i. s.If c.in-If.n (sym c.as_slice-in-If.ensures i) (sym c.as_slice-in-If-2.ensures i))) ∙ if_nodes k c.args.names.now.first c.in-If.n c.as_slice-in-If.result.now c.as_slice-in-If-2.result.now in let g = h k in omega (arith, e, g)) c.resolve_branches.ensures.nodes

pub resolve_stmt-returns-in-Try-clause-nodes : goal.resolve_stmt-returns-in-Try-clause-nodes
resolve_stmt-returns-in-Try-clause-nodes t c = on_map c.resolve_tried.result (λ h k. let e = ap (stmt_nodes k c.args.names.now.first) (c.in-Try.is ∙ (λ i. s.Try c.in-Try.n (sym c.as_slice-in-Try.ensures i) (sym c.as_slice-clauses.ensures i) (sym c.as_slice-in-Try-2.ensures i) c.in-Try.last)) ∙ try_nodes k c.args.names.now.first c.in-Try.n c.as_slice-in-Try.result.now c.as_slice-clauses.result.now c.as_slice-in-Try-2.result.now c.in-Try.last in let g = h k in omega (arith, e, g)) c.resolve_tried.ensures.nodes

pub resolve_branches-returns-in-empty-clause-nodes : goal.resolve_branches-returns-in-empty-clause-nodes
resolve_branches-returns-in-empty-clause-nodes t c = on_map c.resolve_into.result (λ h k. let g = h k in omega (arith, g)) c.resolve_into.ensures.nodes

pub resolve_branches-returns-in-len1-up-clause-nodes : goal.resolve_branches-returns-in-len1-up-clause-nodes
resolve_branches-returns-in-len1-up-clause-nodes t c = on_map c.put.result (λ h k. let e = ap (λ us. total (map (arm_nodes k c.args.names.now.first) us)) (first_rest c.args.arms.now c.arm-item.result (omega arith) c.arm-item.is) in let p = put_counted k c.resolve_if.result c.args.block.now c.put.new.block _ h (ok_map c.resolve_if.result (λ made g. g k) c.resolve_if.ensures.nodes) in omega (arith, e, p)) c.put.ensures

pub resolve_while-returns-clause-nodes : goal.resolve_while-returns-clause-nodes
resolve_while-returns-clause-nodes t c = λ k. let v = while_counts k c.node.result c.in_ok-test.test c.in_ok-body.body in let g = c.in_ok-test.ensures.nodes k in let h = c.in_ok-body.ensures.nodes k in omega (arith, v, g, h)

pub resolve_for-returns-clause-nodes : goal.resolve_for-returns-clause-nodes
resolve_for-returns-clause-nodes t c = λ k. let v = for_counts k c.node.result c.in_ok-target.target c.in_ok-subject.subject c.in_ok-body.body in let f = c.in_ok-target.ensures.nodes k in let g = c.in_ok-subject.ensures.nodes k in let h = c.in_ok-body.ensures.nodes k in omega (arith, v, f, g, h)

pub resolve_finally-returns-clause-nodes : goal.resolve_finally-returns-clause-nodes
resolve_finally-returns-clause-nodes t c = λ k. let v = finally_counts k c.node.result c.args.tried c.in_ok-last.last in let h = c.in_ok-last.ensures.nodes k in omega (arith, v, h)

pub resolve_tried-returns-in-None-clause-nodes : goal.resolve_tried-returns-in-None-clause-nodes
resolve_tried-returns-in-None-clause-nodes t c = on_map c.resolve_try.result (λ h k. let g = h k in omega (arith, g)) c.resolve_try.ensures.nodes

pub resolve_tried-returns-in_ok-resolve_try-in-Some-clause-nodes : goal.resolve_tried-returns-in_ok-resolve_try-in-Some-clause-nodes
resolve_tried-returns-in_ok-resolve_try-in-Some-clause-nodes t c = on_map c.put.result (λ h k. let l = ap (last_nodes k c.args.names.now.first) c.in-Some.is in let a = ap (block_nodes k c.args.names.now.first) c.as_slice.ensures in let z = ap (block_values k) c.new-tried.ensures in let t = c.in_ok-resolve_try-in-Some.ensures.nodes k in let p = put_counted k c.resolve_finally.result c.args.block.now c.put.new.block _ h (ok_map c.resolve_finally.result (λ made g. g k) c.resolve_finally.ensures.nodes) in omega (arith, l, a, z, t, p)) c.put.ensures

pub resolve_try-returns-in-empty-clause-nodes : goal.resolve_try-returns-in-empty-clause-nodes
resolve_try-returns-in-empty-clause-nodes t c = on_map c.resolve_into.result (λ h k. let g = h k in omega (arith, g)) c.resolve_into.ensures.nodes

pub resolve_try-returns-in-len1-up-clause-nodes : goal.resolve_try-returns-in-len1-up-clause-nodes
resolve_try-returns-in-len1-up-clause-nodes t c = on_map c.put.result (λ h k. let p = put_counted k c.resolve_clauses_of.result c.args.block.now c.put.new.block _ h (ok_map c.resolve_clauses_of.result (λ made g. g k) c.resolve_clauses_of.ensures.nodes) in omega (arith, p)) c.put.ensures

pub resolve_clauses_of-returns-clause-nodes : goal.resolve_clauses_of-returns-clause-nodes
resolve_clauses_of-returns-clause-nodes t c = λ k. let v = try_counts k c.node.result c.in_ok-body.body c.in_ok-clauses.clauses c.in_ok-other.other in let f = c.in_ok-body.ensures.nodes k in let g = c.in_ok-clauses.ensures.nodes k in let h = c.in_ok-other.ensures.nodes k in omega (arith, v, f, g, h)

pub resolve_arm-returns-clause-nodes : goal.resolve_arm-returns-clause-nodes
resolve_arm-returns-clause-nodes t c = ok_map c.alone_in.result (λ made h k. let v = if_counts k c.node.result c.in_ok-test.test c.in_ok-body.body c.args.other in let a = ap (block_nodes k c.args.names.now.first) c.as_slice.ensures in let o = ap (block_values k) h in let g = c.in_ok-test.ensures.nodes k in let b = c.in_ok-body.ensures.nodes k in omega (arith, v, a, o, g, b)) c.alone_in.ensures

pub resolve_if-returns-clause-nodes : goal.resolve_if-returns-clause-nodes
resolve_if-returns-clause-nodes t c = λ k. let v = if_counts k c.node.result c.in_ok-test.test c.in_ok-body.body c.in_ok-further.further in let a = ap (block_nodes k c.args.names.now.first) c.as_slice.ensures in let f = c.in_ok-further.ensures.nodes k in let g = c.in_ok-test.ensures.nodes k in let h = c.in_ok-body.ensures.nodes k in omega (arith, v, a, f, g, h)

pub resolve_clause-returns-clause-nodes : goal.resolve_clause-returns-clause-nodes
resolve_clause-returns-clause-nodes t c = λ k. let v = clause_counts k (record { node = c.node.result; bare = c.args.clause.now.bare; classes = c.in_ok-classes.classes; local = c.local_of-local.result; body = c.in_ok-body.body }) in let n = clause_has k c.args.names.now.first c.args.clause.now in let a = ap (block_nodes k c.args.names.now.first) c.as_slice.ensures in let h = c.in_ok-body.ensures.nodes k in omega (arith, v, n, a, h)

pub resolve_into-returns-clause-nodes : goal.resolve_into-returns-clause-nodes
resolve_into-returns-clause-nodes t c = λ k. none_left (done_values k) (stmt_nodes k c.args.names.now.first) c.loop-s.block _ _ (drop_all c.args.body.now c.loop-s.s-index (omega (arith, c.loop-s-test.false))) (c.loop-s.invariant.1 k)

pub resolve_into-loop-s-preserved : goal.resolve_into-loop-s-preserved
resolve_into-loop-s-preserved t c = (
  joined_on c.args.names.now.program.now.sites (the_names c.args.names.now) (block_tree c.args.names.now c.loop-s.block) (block_tree c.args.names.now c.resolve_stmt.new.block) c.s-item.result (drop (c.loop-s.s-index + 1) c.args.body.now) c.in_ok-resolve_stmt.ensures.tree ∙ ap (λ us. onto (the_names c.args.names.now) (block_tree c.args.names.now c.loop-s.block) (joined (the_names c.args.names.now) (map (stmt_by (the_names c.args.names.now)) us))) (sym (drop_at c.args.body.now c.loop-s.s-index c.s-item.result c.loop-s-test.true c.s-item.is)) ∙ c.loop-s.invariant.0,
  λ k.
      let d : total (map (stmt_nodes k c.args.names.now.first) (drop c.loop-s.s-index c.args.body.now)) ≡ stmt_nodes k c.args.names.now.first c.s-item.result + total (map (stmt_nodes k c.args.names.now.first) (drop (c.loop-s.s-index + 1) c.args.body.now)) = ap (λ us. total (map (stmt_nodes k c.args.names.now.first) us)) (drop_at c.args.body.now c.loop-s.s-index c.s-item.result c.loop-s-test.true c.s-item.is) in
      let g = c.in_ok-resolve_stmt.ensures.nodes k in
      let w = c.loop-s.invariant.1 k in
      omega (arith, d, g, w),
)

pub resolve_clauses-loop-clause-preserved : goal.resolve_clauses-loop-clause-preserved
resolve_clauses-loop-clause-preserved t c = (
  one_more (caught_tree c.args.names.now) (caught_by (the_names c.args.names.now)) c.loop-clause.resolved c.push.new.self c.in_ok-clause.clause c.clause-item.result (drop c.loop-clause.clause-index c.args.clauses.now) (drop (c.loop-clause.clause-index + 1) c.args.clauses.now) _ c.in_ok-push.ensures.ok c.in_ok-clause.ensures.tree (drop_at c.args.clauses.now c.loop-clause.clause-index c.clause-item.result c.loop-clause-test.true c.clause-item.is) c.loop-clause.invariant.0,
  λ k. one_more_counted (caught_values k) (clause_nodes k c.args.names.now.first) c.loop-clause.resolved c.push.new.self c.in_ok-clause.clause c.clause-item.result (drop c.loop-clause.clause-index c.args.clauses.now) (drop (c.loop-clause.clause-index + 1) c.args.clauses.now) _ c.in_ok-push.ensures.ok (c.in_ok-clause.ensures.nodes k) (drop_at c.args.clauses.now c.loop-clause.clause-index c.clause-item.result c.loop-clause-test.true c.clause-item.is) (c.loop-clause.invariant.1 k),
)

pub resolve_arms-loop-left-init : goal.resolve_arms-loop-left-init
resolve_arms-loop-left-init t c =
    let d = drop_all c.args.arms.now (length c.args.arms.now) (omega arith) in (
      omega arith,
      c.in_ok-further.ensures.tree ∙ ap (λ us. meaning.if_of (the_names c.args.names.now) (map (arm_by (the_names c.args.names.now)) us) (map (stmt_by (the_names c.args.names.now)) c.args.other.now)) (sym d),
      λ k.
          let e = ap (λ us. total (map (arm_nodes k c.args.names.now.first) us)) d in
          let g = c.in_ok-further.ensures.nodes k in
          omega (arith, e, g),
    )

pub resolve_arms-loop-left-preserved : goal.resolve_arms-loop-left-preserved
resolve_arms-loop-left-preserved t c =
    let n : (c.loop-left.left - 1) + 1 ≡ c.loop-left.left = omega (arith, c.loop-left-test.true) in
    let d = drop_at c.args.arms.now (c.loop-left.left - 1) c.index-arms-left.result (omega (arith, c.loop-left-test.true, c.loop-left.invariant.0)) c.index-arms-left.is ∙ ap (λ j. c.index-arms-left.result ∷ drop j c.args.arms.now) n in (
      omega (arith, c.loop-left.invariant.0),
      c.in_ok-further-2.ensures.tree
          ∙ ap (λ b. tree.line (tree.If (expr_by (the_names c.args.names.now) c.index-arms-left.result.0) (joined (the_names c.args.names.now) (map (stmt_by (the_names c.args.names.now)) c.index-arms-left.result.1)) b) tree.done) c.loop-left.invariant.1
          ∙ ap (λ us. meaning.if_of (the_names c.args.names.now) (map (arm_by (the_names c.args.names.now)) us) (map (stmt_by (the_names c.args.names.now)) c.args.other.now)) (sym d),
      λ k.
          let e = ap (λ us. total (map (arm_nodes k c.args.names.now.first) us)) d in
          let g = c.in_ok-further-2.ensures.nodes k in
          let w = c.loop-left.invariant.2 k in
          omega (arith, e, g, w),
    )

pub resolve_block-returns-clause-nodes : goal.resolve_block-returns-clause-nodes
resolve_block-returns-clause-nodes t c = λ k. let z = ap (block_values k) c.new-block.ensures in let g = c.in_ok-resolve_into.ensures.nodes k in omega (arith, z, g)

-- ---- calls: what each is given is smaller

pub resolve_stmt-resolve_while-requires : goal.resolve_stmt-resolve_while-requires
resolve_stmt-resolve_while-requires t c = (let d : 8 * stmt_size c.args.s.now ≡ t = c.decreases in let e = ap stmt_size (c.in-While.is ∙ ap (s.While c.in-While.n c.in-While.test) (sym c.as_slice-in-While.ensures)) ∙ while_size c.in-While.n c.in-While.test c.as_slice-in-While.result.now in omega (arith, d, e), c.requires)

pub resolve_stmt-resolve_for-requires : goal.resolve_stmt-resolve_for-requires
resolve_stmt-resolve_for-requires t c = (let d : 8 * stmt_size c.args.s.now ≡ t = c.decreases in let e = ap stmt_size (c.in-For.is ∙ ap (s.For c.in-For.n c.in-For.target c.in-For.over) (sym c.as_slice-in-For.ensures)) ∙ for_size c.in-For.n c.in-For.target c.in-For.over c.as_slice-in-For.result.now in omega (arith, d, e), c.requires)

pub resolve_stmt-resolve_tried-requires : goal.resolve_stmt-resolve_tried-requires
resolve_stmt-resolve_tried-requires t c = (let d : 8 * stmt_size c.args.s.now ≡ t = c.decreases in let e = ap stmt_size (c.in-Try.is ∙ (λ i. s.Try c.in-Try.n (sym c.as_slice-in-Try.ensures i) (sym c.as_slice-clauses.ensures i) (sym c.as_slice-in-Try-2.ensures i) c.in-Try.last)) ∙ try_size c.in-Try.n c.as_slice-in-Try.result.now c.as_slice-clauses.result.now c.as_slice-in-Try-2.result.now c.in-Try.last in omega (arith, d, e), c.requires)

pub resolve_branches-resolve_into-requires : goal.resolve_branches-resolve_into-requires
resolve_branches-resolve_into-requires t c = (let d : 8 * (sum_by arm_size c.args.arms.now + body_nodes c.args.other.now) + 6 ≡ t = c.decreases in omega (arith, d), c.requires)

pub resolve_branches-resolve_if-requires : goal.resolve_branches-resolve_if-requires
resolve_branches-resolve_if-requires t c = (let d : 8 * (sum_by arm_size c.args.arms.now + body_nodes c.args.other.now) + 6 ≡ t = c.decreases in let e = ap (sum_by arm_size) (first_rest c.args.arms.now c.arm-item.result (omega arith) c.arm-item.is) ∙ sum_by-cons arm_size c.arm-item.result (take (length c.args.arms.now - 1) (drop 1 c.args.arms.now)) in omega (arith, d, e), c.requires)

pub resolve_while-resolve_block-requires : goal.resolve_while-resolve_block-requires
resolve_while-resolve_block-requires t c = (let d : 8 * body_nodes c.args.body.now + 3 ≡ t = c.decreases in omega (arith, d), c.requires)

pub resolve_for-resolve_block-requires : goal.resolve_for-resolve_block-requires
resolve_for-resolve_block-requires t c = (let d : 8 * body_nodes c.args.body.now + 3 ≡ t = c.decreases in omega (arith, d), c.requires)

pub resolve_finally-resolve_block-requires : goal.resolve_finally-resolve_block-requires
resolve_finally-resolve_block-requires t c = (let d : 8 * body_nodes c.args.last.now + 3 ≡ t = c.decreases in omega (arith, d), c.requires)

pub resolve_tried-resolve_try-requires : goal.resolve_tried-resolve_try-requires
resolve_tried-resolve_try-requires t c = (let d : 8 * (body_nodes c.args.body.now + sum_by clause_size c.args.clauses.now + body_nodes c.args.other.now + option_map_or body_nodes c.args.last.now 0) + 5 ≡ t = c.decreases in omega (arith, d), c.requires)

pub resolve_tried-resolve_try-requires-in-Some : goal.resolve_tried-resolve_try-requires-in-Some
resolve_tried-resolve_try-requires-in-Some t c = (let d : 8 * (body_nodes c.args.body.now + sum_by clause_size c.args.clauses.now + body_nodes c.args.other.now + option_map_or body_nodes c.args.last.now 0) + 5 ≡ t = c.decreases in omega (arith, d), c.requires)

pub resolve_tried-resolve_finally-requires : goal.resolve_tried-resolve_finally-requires
resolve_tried-resolve_finally-requires t c = (let d : 8 * (body_nodes c.args.body.now + sum_by clause_size c.args.clauses.now + body_nodes c.args.other.now + option_map_or body_nodes c.args.last.now 0) + 5 ≡ t = c.decreases in let e = ap (λ o. option_map_or body_nodes o 0) c.in-Some.is ∙ ap body_nodes (sym c.as_slice.ensures) in omega (arith, d, e), c.requires)

pub resolve_try-resolve_into-requires : goal.resolve_try-resolve_into-requires
resolve_try-resolve_into-requires t c = (let d : 8 * (body_nodes c.args.body.now + sum_by clause_size c.args.clauses.now + body_nodes c.args.other.now) + 4 ≡ t = c.decreases in omega (arith, d), c.requires)

pub resolve_try-resolve_clauses_of-requires : goal.resolve_try-resolve_clauses_of-requires
resolve_try-resolve_clauses_of-requires t c = (let d : 8 * (body_nodes c.args.body.now + sum_by clause_size c.args.clauses.now + body_nodes c.args.other.now) + 4 ≡ t = c.decreases in omega (arith, d), c.requires)

pub resolve_clauses_of-resolve_block-requires : goal.resolve_clauses_of-resolve_block-requires
resolve_clauses_of-resolve_block-requires t c = (let d : 8 * (body_nodes c.args.body.now + sum_by clause_size c.args.clauses.now + body_nodes c.args.other.now) + 3 ≡ t = c.decreases in omega (arith, d), c.requires)

pub resolve_clauses_of-resolve_clauses-requires : goal.resolve_clauses_of-resolve_clauses-requires
resolve_clauses_of-resolve_clauses-requires t c = (let d : 8 * (body_nodes c.args.body.now + sum_by clause_size c.args.clauses.now + body_nodes c.args.other.now) + 3 ≡ t = c.decreases in omega (arith, d), c.requires)

pub resolve_clauses_of-resolve_block-requires-2 : goal.resolve_clauses_of-resolve_block-requires-2
resolve_clauses_of-resolve_block-requires-2 t c = (let d : 8 * (body_nodes c.args.body.now + sum_by clause_size c.args.clauses.now + body_nodes c.args.other.now) + 3 ≡ t = c.decreases in omega (arith, d), c.requires)

pub resolve_into-resolve_stmt-requires : goal.resolve_into-resolve_stmt-requires
resolve_into-resolve_stmt-requires t c = (let d : 8 * body_nodes c.args.body.now + 1 ≡ t = c.decreases in let e = item_less stmt_size c.args.body.now c.loop-s.s-index c.s-item.result c.loop-s-test.true c.s-item.is in omega (arith, d, e), c.requires)

pub resolve_block-resolve_into-requires : goal.resolve_block-resolve_into-requires
resolve_block-resolve_into-requires t c = (let d : 8 * body_nodes c.args.body.now + 2 ≡ t = c.decreases in omega (arith, d), c.requires)

pub resolve_arm-resolve_block-requires : goal.resolve_arm-resolve_block-requires
resolve_arm-resolve_block-requires t c = (let d : 8 * arm_size c.args.arm.now + 3 ≡ t = c.decreases in let e = ap body_nodes c.as_slice.ensures in omega (arith, d, e), c.requires)

pub resolve_arms-resolve_block-requires : goal.resolve_arms-resolve_block-requires
resolve_arms-resolve_block-requires t c = (let d : 8 * (sum_by arm_size c.args.arms.now + body_nodes c.args.other.now) + 4 ≡ t = c.decreases in omega (arith, d), c.requires)

pub resolve_arms-resolve_arm-requires : goal.resolve_arms-resolve_arm-requires
resolve_arms-resolve_arm-requires t c = (let d : 8 * (sum_by arm_size c.args.arms.now + body_nodes c.args.other.now) + 4 ≡ t = c.decreases in let e = item_less arm_size c.args.arms.now (c.loop-left.left - 1) c.index-arms-left.result (omega (arith, c.loop-left-test.true, c.loop-left.invariant.0)) c.index-arms-left.is in omega (arith, d, e), c.requires)

pub resolve_if-resolve_block-requires : goal.resolve_if-resolve_block-requires
resolve_if-resolve_block-requires t c = (let d : 8 * (arm_size c.args.arm.now + sum_by arm_size c.args.rest.now + body_nodes c.args.other.now) + 5 ≡ t = c.decreases in let e = ap body_nodes c.as_slice.ensures in omega (arith, d, e), c.requires)

pub resolve_if-resolve_arms-requires : goal.resolve_if-resolve_arms-requires
resolve_if-resolve_arms-requires t c = (let d : 8 * (arm_size c.args.arm.now + sum_by arm_size c.args.rest.now + body_nodes c.args.other.now) + 5 ≡ t = c.decreases in omega (arith, d), c.requires)

pub resolve_clause-resolve_block-requires : goal.resolve_clause-resolve_block-requires
resolve_clause-resolve_block-requires t c = (let d : 8 * clause_size c.args.clause.now ≡ t = c.decreases in let e = clause_is c.args.clause.now in let a = ap body_nodes c.as_slice.ensures in omega (arith, d, e, a), c.requires)

pub resolve_clauses-resolve_clause-requires : goal.resolve_clauses-resolve_clause-requires
resolve_clauses-resolve_clause-requires t c = (let d : 8 * sum_by clause_size c.args.clauses.now + 1 ≡ t = c.decreases in let e = item_less clause_size c.args.clauses.now c.loop-clause.clause-index c.clause-item.result c.loop-clause-test.true c.clause-item.is in omega (arith, d, e), c.requires)
