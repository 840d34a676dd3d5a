-- What each form says: the parts that are made, and what the meaning makes of it.
use Rattle.std.proofs.Common.{rules, ◌≡◌, ◌+◌, ◌*◌, ◌<◌, ◌++◌, [], ◌∷◌, true, false, map, drop, sym, ap, ◌∙◌, arith, refl}
use Rattle.std.specs.Prelude.{sum_by}
use Rattle.std.specs.Option.{option_map_or}
use Rattle.rpy_tree.specs.Size.{expr_nodes, target_nodes as target_size}
use Rattle.rpy_tree.specs.declared.syntax.Expr as syntax
use Rattle.rpy_tree.specs.declared.syntax.Expr.{out-Expr}
use Rattle.rpy_tree.specs.declared.syntax.Expr.TheVariants as s
use Rattle.rpy_meaning.specs.declared.row.RowOp.TheVariants as row
use Rattle.rpy_meaning.specs.Resolved as meaning
use Rattle.rpy_meaning.specs.Resolved.{expr_by, target_by}
use Rattle.rpy_meaning.specs.Tree as tree
use Rattle.resolved_laws.specs.Uncopied.{bare}
use Rattle.resolver_names.specs.Forms.{both, minus_in}
use Rattle.resolver_names.specs.Nodes.{total, values, walked_values, bound_values, node_at, nodes, nodes_if, target_nodes}
use Rattle.resolver_names.specs.Told.{the_names, tree_of, aim_of}
use Rattle.resolver_names.proofs.Counting.{int_nodes, str_nodes, name_nodes, unary_nodes, binary_nodes, compare_nodes, logic_nodes, not_nodes, call_nodes, attr_nodes, index_nodes, slice_nodes, tuple_nodes, list_nodes, dict_nodes, comp_nodes, target_name_nodes, target_attr_nodes, target_item_nodes, target_tuple_nodes, display_counts, comprehension_counts, and_counts, or_counts, up_counts, over_counts, attr_counts, item_counts, parts_counts}
use Rattle.resolver_names.proofs.Making.{dict_said, comp_said, ok_map}
use Rattle.resolver_names.proofs.Plain.{literal_same, ranged}
use Rattle.resolver_names.proofs.Saying.{slice_said, tuple_said, list_said}
use Rattle.rpy_resolver.proofs.Counts.{from_less, node_is, apply_less, leaf_less, range_less, one_more_counted, one_pair_counted}
use Rattle.rpy_resolver.proofs.Forms.{same_tree, same_walk, one_more, drop_at, one_item, two_items, three_items, all_whole, leaf_whole, display_whole, builtin_whole, method_whole, no_method_whole, other_whole, function_whole, new_whole, value_whole, instance_whole, checked_whole, but_last_whole, end_whole, up_whole, step_whole, name_aim, attr_aim, item_aim, tuple_aim, over_whole, none_ranged, some_ranged, many_whole, int_said, str_said, name_said, unary_said, not_said, binary_said, compare_said, logic_said, call_said, attr_said, index_said}
use Rattle.rpy_resolver.proofs.Sizes.{item_less, unary_size, binary_size, compare_size, logic_size, not_size, call_size, attr_size, index_size, slice_size, tuple_size, list_size, dict_size, comp_size, aim_attr_size, aim_item_size, aim_tuple_size}
use Rattle.rpy_resolver.proofs.expression.+expr.Goals as goal

pub resolve_all-returns-clause-tree : goal.resolve_all-returns-clause-tree
resolve_all-returns-clause-tree t c = all_whole c.args.names.now c.node.result true c.args.op c.resolve_exprs.new.parts (map (expr_by (the_names c.args.names.now)) c.args.es.now) (c.in_ok-resolve_exprs.ensures.tree ∙ ap (λ us. map (tree_of c.args.names.now) us ++ map (expr_by (the_names c.args.names.now)) c.args.es.now) c.new-parts.ensures)

pub resolve_builtin-returns-in-Some-clause-tree : goal.resolve_builtin-returns-in-Some-clause-tree
resolve_builtin-returns-in-Some-clause-tree t c = same_tree c.args.names.now c.resolve_all.result _ _ (builtin_whole c.args.names.now c.args.builtin c.in-Some.op c.args.args.now (sym c.builtin_op.ensures ∙ c.in-Some.is)) c.resolve_all.ensures.tree

pub resolve_call-returns-in_ok-copy-in-Nothing-clause-tree : goal.resolve_call-returns-in_ok-copy-in-Nothing-clause-tree
resolve_call-returns-in_ok-copy-in-Nothing-clause-tree t c = same_tree c.args.names.now c.resolve_first.result _ _ (ap (λ (x : syntax.Expr). bare (row.Method c.in_ok-copy-in-Nothing.field-0 c.site.result) (tree.more (expr_by (the_names c.args.names.now) x) (meaning.exprs (map (expr_by (the_names c.args.names.now)) c.args.args.now)))) c.get.ensures ∙ method_whole c.args.names.now c.args.callee.now c.in-Attr.before c.in-Attr.m c.in-Attr.name c.args.n c.args.args.now c.meant-in-Attr.result.now (row.Method c.in_ok-copy-in-Nothing.field-0 c.site.result) c.in-Attr.is c.meant-in-Attr.ensures c.in-Nothing.is (sym c.is_method.ensures ∙ c.if-is_method.true) (λ i. row.Method (c.in_ok-copy-in-Nothing.ensures i) (c.site.ensures i))) c.resolve_first.ensures.tree

pub resolve_call-returns-else-is_method-clause-tree : goal.resolve_call-returns-else-is_method-clause-tree
resolve_call-returns-else-is_method-clause-tree t c = same_tree c.args.names.now c.resolve_first-else-is_method.result _ _ (no_method_whole c.args.names.now c.args.callee.now c.in-Attr.before c.in-Attr.m c.in-Attr.name c.args.n c.args.args.now c.meant-in-Attr.result.now c.in-Attr.is c.meant-in-Attr.ensures c.in-Nothing.is (sym c.is_method.ensures ∙ c.if-is_method.false)) c.resolve_first-else-is_method.ensures.tree

pub resolve_call-returns-in_default-clause-tree : goal.resolve_call-returns-in_default-clause-tree
resolve_call-returns-in_default-clause-tree t c = same_tree c.args.names.now c.resolve_first-in_default.result _ _ (other_whole c.args.names.now c.args.callee.now c.args.n c.args.args.now c.in_default.not-Name c.in_default.not-Attr) c.resolve_first-in_default.ensures.tree

pub resolve_dict-returns-clause-tree : goal.resolve_dict-returns-clause-tree
resolve_dict-returns-clause-tree t c = display_whole c.args.names.now c.node.result c.made.result c.args.n c.in_ok-pairs.pairs c.args.pairs.now c.made.ensures c.in_ok-pairs.ensures.tree

pub resolve_expr-returns-in-Int-clause-tree : goal.resolve_expr-returns-in-Int-clause-tree
resolve_expr-returns-in-Int-clause-tree t c = leaf_whole c.args.names.now c.node.result true (row.Word c.in-Int.word) c.leaf.result (search rules) ∙ int_said (the_names c.args.names.now) c.args.e.now c.in-Int.n c.in-Int.word c.in-Int.is

pub resolve_expr-returns-in_ok-copy-in-Str-clause-tree : goal.resolve_expr-returns-in_ok-copy-in-Str-clause-tree
resolve_expr-returns-in_ok-copy-in-Str-clause-tree t c = leaf_whole c.args.names.now c.node-in-Str.result true (row.Str c.in_ok-copy-in-Str.field-0) c.leaf-in-Str.result c.leaf-in-Str.ensures ∙ ap (λ x. tree.Apply (row.Str x) tree.none) c.in_ok-copy-in-Str.ensures ∙ str_said (the_names c.args.names.now) c.args.e.now c.in-Str.n c.in-Str.text c.in-Str.is

pub resolve_expr-returns-in-Name-clause-tree : goal.resolve_expr-returns-in-Name-clause-tree
resolve_expr-returns-in-Name-clause-tree t c = same_tree c.args.names.now c.named_value.result _ _ (ap (meaning.named_value (the_names c.args.names.now)) c.meant.ensures ∙ name_said (the_names c.args.names.now) c.args.e.now c.in-Name.n c.in-Name.field-1 c.in-Name.is) c.named_value.ensures.tree

pub resolve_expr-returns-in-Unary-clause-tree : goal.resolve_expr-returns-in-Unary-clause-tree
resolve_expr-returns-in-Unary-clause-tree t c = same_tree c.args.names.now c.resolve_one.result _ _ (unary_said (the_names c.args.names.now) c.args.e.now c.in-Unary.n c.in-Unary.op c.get.result.now (c.in-Unary.is ∙ ap (s.Unary c.in-Unary.n c.in-Unary.op) (sym c.get.ensures))) c.resolve_one.ensures.tree

pub resolve_expr-returns-in-Binary-clause-tree : goal.resolve_expr-returns-in-Binary-clause-tree
resolve_expr-returns-in-Binary-clause-tree t c = same_tree c.args.names.now c.resolve_two.result _ _ (binary_said (the_names c.args.names.now) c.args.e.now c.in-Binary.n c.in-Binary.op c.get-in-Binary.result.now c.get-in-Binary-2.result.now c.binary_of-op.result (c.in-Binary.is ∙ (λ i. s.Binary c.in-Binary.n c.in-Binary.op (sym c.get-in-Binary.ensures i) (sym c.get-in-Binary-2.ensures i))) c.binary_of-op.ensures) c.resolve_two.ensures.tree

pub resolve_expr-returns-in-Compare-clause-tree : goal.resolve_expr-returns-in-Compare-clause-tree
resolve_expr-returns-in-Compare-clause-tree t c = same_tree c.args.names.now c.resolve_two-in-Compare.result _ _ (compare_said (the_names c.args.names.now) c.args.e.now c.in-Compare.n c.in-Compare.op c.get-in-Compare.result.now c.get-in-Compare-2.result.now (c.in-Compare.is ∙ (λ i. s.Compare c.in-Compare.n c.in-Compare.op (sym c.get-in-Compare.ensures i) (sym c.get-in-Compare-2.ensures i)))) c.resolve_two-in-Compare.ensures.tree

pub resolve_expr-returns-in-Logic-clause-tree : goal.resolve_expr-returns-in-Logic-clause-tree
resolve_expr-returns-in-Logic-clause-tree t c = same_tree c.args.names.now c.resolve_logic.result _ _ (logic_said (the_names c.args.names.now) c.args.e.now c.in-Logic.n c.in-Logic.is_and c.get-in-Logic.result.now c.get-in-Logic-2.result.now (c.in-Logic.is ∙ (λ i. s.Logic c.in-Logic.n c.in-Logic.is_and (sym c.get-in-Logic.ensures i) (sym c.get-in-Logic-2.ensures i)))) c.resolve_logic.ensures.tree

pub resolve_expr-returns-in-Not-clause-tree : goal.resolve_expr-returns-in-Not-clause-tree
resolve_expr-returns-in-Not-clause-tree t c = same_tree c.args.names.now c.resolve_one-in-Not.result _ _ (not_said (the_names c.args.names.now) c.args.e.now c.in-Not.n c.get-in-Not.result.now (c.in-Not.is ∙ ap (s.Not c.in-Not.n) (sym c.get-in-Not.ensures))) c.resolve_one-in-Not.ensures.tree

pub resolve_expr-returns-in-Call-clause-tree : goal.resolve_expr-returns-in-Call-clause-tree
resolve_expr-returns-in-Call-clause-tree t c = same_tree c.args.names.now c.resolve_call.result _ _ (call_said (the_names c.args.names.now) c.args.e.now c.in-Call.n c.get-in-Call.result.now c.as_slice.result.now (c.in-Call.is ∙ (λ i. s.Call c.in-Call.n (sym c.get-in-Call.ensures i) (sym c.as_slice.ensures i)))) c.resolve_call.ensures.tree

pub resolve_expr-returns-in-Attr-clause-tree : goal.resolve_expr-returns-in-Attr-clause-tree
resolve_expr-returns-in-Attr-clause-tree t c = same_tree c.args.names.now c.resolve_attr.result _ _ (attr_said (the_names c.args.names.now) c.args.e.now c.in-Attr.n c.get-in-Attr.result.now c.in-Attr.name (c.in-Attr.is ∙ ap (λ x. s.Attr c.in-Attr.n x c.in-Attr.name) (sym c.get-in-Attr.ensures))) c.resolve_attr.ensures.tree

pub resolve_expr-returns-in-Index-clause-tree : goal.resolve_expr-returns-in-Index-clause-tree
resolve_expr-returns-in-Index-clause-tree t c = same_tree c.args.names.now c.resolve_two-in-Index.result _ _ (index_said (the_names c.args.names.now) c.args.e.now c.in-Index.n c.get-in-Index-2.result.now c.get-in-Index-3.result.now c.literal_of.result (c.in-Index.is ∙ (λ i. s.Index c.in-Index.n (sym c.get-in-Index-2.ensures i) (sym c.get-in-Index-3.ensures i))) (c.literal_of.ensures ∙ literal_same (the_names c.args.names.now) c.get-in-Index.result.now ∙ ap (λ x. meaning.literal_of (expr_by (the_names c.args.names.now) x)) (c.get-in-Index.ensures ∙ sym c.get-in-Index-3.ensures))) c.resolve_two-in-Index.ensures.tree

pub resolve_expr-returns-in-Slice-clause-tree : goal.resolve_expr-returns-in-Slice-clause-tree
resolve_expr-returns-in-Slice-clause-tree t c = same_tree c.args.names.now c.resolve_slice.result _ _ (sym (slice_said (the_names c.args.names.now) c.in-Slice.n c.get-in-Slice.result.now c.in-Slice.low c.in-Slice.high) ∙ ap (expr_by (the_names c.args.names.now)) (sym (c.in-Slice.is ∙ ap (λ x. s.Slice c.in-Slice.n x c.in-Slice.low c.in-Slice.high) (sym c.get-in-Slice.ensures)))) c.resolve_slice.ensures.tree

pub resolve_expr-returns-in-Tuple-clause-tree : goal.resolve_expr-returns-in-Tuple-clause-tree
resolve_expr-returns-in-Tuple-clause-tree t c = same_tree c.args.names.now c.resolve_all.result _ _ (sym (tuple_said (the_names c.args.names.now) c.in-Tuple.n c.as_slice-in-Tuple.result.now) ∙ ap (expr_by (the_names c.args.names.now)) (sym (c.in-Tuple.is ∙ ap (s.Tuple c.in-Tuple.n) (sym c.as_slice-in-Tuple.ensures)))) c.resolve_all.ensures.tree

pub resolve_expr-returns-in-List-clause-tree : goal.resolve_expr-returns-in-List-clause-tree
resolve_expr-returns-in-List-clause-tree t c = same_tree c.args.names.now c.resolve_all-in-List.result _ _ (ap (λ site. tree.Apply (row.List site) (meaning.exprs (map (expr_by (the_names c.args.names.now)) c.as_slice-in-List.result.now))) c.made.ensures ∙ sym (list_said (the_names c.args.names.now) c.in-List.n c.as_slice-in-List.result.now) ∙ ap (expr_by (the_names c.args.names.now)) (sym (c.in-List.is ∙ ap (s.List c.in-List.n) (sym c.as_slice-in-List.ensures)))) c.resolve_all-in-List.ensures.tree

pub resolve_expr-returns-in-Dict-clause-tree : goal.resolve_expr-returns-in-Dict-clause-tree
resolve_expr-returns-in-Dict-clause-tree t c = same_tree c.args.names.now c.resolve_dict.result _ _ (sym (dict_said (the_names c.args.names.now) c.in-Dict.n c.as_slice-in-Dict.result.now) ∙ ap (expr_by (the_names c.args.names.now)) (sym (c.in-Dict.is ∙ ap (s.Dict c.in-Dict.n) (sym c.as_slice-in-Dict.ensures)))) c.resolve_dict.ensures.tree

pub resolve_expr-returns-in-Comp-clause-tree : goal.resolve_expr-returns-in-Comp-clause-tree
resolve_expr-returns-in-Comp-clause-tree t c = same_tree c.args.names.now c.resolve_comp.result _ _ (sym (comp_said (the_names c.args.names.now) c.in-Comp.n c.get-in-Comp.result.now c.get-target.result.now c.get-in-Comp-2.result.now c.in-Comp.condition) ∙ ap (expr_by (the_names c.args.names.now)) (sym (c.in-Comp.is ∙ (λ i. s.Comp c.in-Comp.n (sym c.get-in-Comp.ensures i) (sym c.get-target.ensures i) (sym c.get-in-Comp-2.ensures i) c.in-Comp.condition)))) c.resolve_comp.ensures.tree

pub resolve_first-returns-clause-tree : goal.resolve_first-returns-clause-tree
resolve_first-returns-clause-tree t c = all_whole c.args.names.now c.node.result true c.args.op c.resolve_exprs.new.parts (expr_by (the_names c.args.names.now) c.args.first.now ∷ map (expr_by (the_names c.args.names.now)) c.args.es.now) (c.in_ok-resolve_exprs.ensures.tree ∙ ap (λ us. map (tree_of c.args.names.now) us ++ map (expr_by (the_names c.args.names.now)) c.args.es.now) (c.in_ok-push.ensures.ok ∙ ap (λ us. us ++ c.in_ok-first.first ∷ []) c.new-parts.ensures) ∙ ap (λ x. x ∷ map (expr_by (the_names c.args.names.now)) c.args.es.now) c.in_ok-first.ensures.tree)

pub resolve_isinstance-returns-in-Some-clause-tree : goal.resolve_isinstance-returns-in-Some-clause-tree
resolve_isinstance-returns-in-Some-clause-tree t c = same_tree c.args.names.now c.resolve_one.result _ _ (instance_whole c.args.names.now c.args.args.now c.a-item.result c.class-item.result c.class.result c.in-Some.class (two_items c.args.args.now c.a-item.result c.class-item.result (omega arith) (omega arith) c.a-item.is c.class-item.is) (c.class.ensures ∙ ap (λ k. meaning.class_named (the_names c.args.names.now) ((the_names c.args.names.now).meant k)) c.node_of.ensures) c.in-Some.is) c.resolve_one.ensures.tree

pub resolve_named-returns-in-Function-clause-tree : goal.resolve_named-returns-in-Function-clause-tree
resolve_named-returns-in-Function-clause-tree t c = same_tree c.args.names.now c.resolve_all.result _ _ (function_whole c.args.names.now c.args.of.now c.in-Function.function c.args.class (expr_by (the_names c.args.names.now) c.args.callee.now) c.function_op.result c.args.args.now c.in-Function.is c.function_op.ensures) c.resolve_all.ensures.tree

pub resolve_named-returns-in-Class-clause-tree : goal.resolve_named-returns-in-Class-clause-tree
resolve_named-returns-in-Class-clause-tree t c = same_tree c.args.names.now c.resolve_all-in-Class.result _ _ (new_whole c.args.names.now c.args.of.now c.in-Class.class c.args.class (expr_by (the_names c.args.names.now) c.args.callee.now) c.args.args.now c.in-Class.is) c.resolve_all-in-Class.ensures.tree

pub resolve_named-returns-in_default-clause-tree : goal.resolve_named-returns-in_default-clause-tree
resolve_named-returns-in_default-clause-tree t c = same_tree c.args.names.now c.resolve_first.result _ _ (value_whole c.args.names.now c.args.of.now c.args.class (expr_by (the_names c.args.names.now) c.args.callee.now) c.args.args.now c.in_default.not-Function c.in_default.not-Class c.in_default.not-Module c.in_default.not-Builtin) c.resolve_first.ensures.tree

pub resolve_ovfcheck-returns-in_ok-e-in-len1-clause-tree : goal.resolve_ovfcheck-returns-in_ok-e-in-len1-clause-tree
resolve_ovfcheck-returns-in_ok-e-in-len1-clause-tree t c = same_tree c.args.names.now c.checked.result _ _ (checked_whole c.args.names.now c.args.args.now c.a-item.result c.in_ok-e-in-len1.e (one_item c.args.args.now c.a-item.result (omega arith) (omega arith) c.a-item.is) c.in_ok-e-in-len1.ensures.tree) c.checked.ensures.tree

pub resolve_range-returns-in_ok-resolve_expr-in-len1-clause-tree : goal.resolve_range-returns-in_ok-resolve_expr-in-len1-clause-tree
resolve_range-returns-in_ok-resolve_expr-in-len1-clause-tree t c = up_whole c.args.names.now c.args.site c.args.args.now c.end-item.result c.in_ok-resolve_expr-in-len1.field-0 (one_item c.args.args.now c.end-item.result (omega arith) (omega arith) c.end-item.is) c.in_ok-resolve_expr-in-len1.ensures.tree

pub resolve_range-returns-in-len3-clause-tree : goal.resolve_range-returns-in-len3-clause-tree
resolve_range-returns-in-len3-clause-tree t c = same_walk c.args.names.now c.resolve_from-in-len3.result _ _ (step_whole c.args.names.now c.args.site c.args.args.now c.start-item-then-args-lt4.result c.end-item-then-args-lt4.result c.step-item.result c.step.result (three_items c.args.args.now c.start-item-then-args-lt4.result c.end-item-then-args-lt4.result c.step-item.result (omega arith) (omega arith) c.start-item-then-args-lt4.is c.end-item-then-args-lt4.is c.step-item.is) (c.step.ensures ∙ ap (λ k. meaning.step_of (the_names c.args.names.now) ((the_names c.args.names.now).constant k)) c.node_of.ensures)) (search rules)

pub resolve_slice-returns-then-is_minus_one-clause-tree : goal.resolve_slice-returns-then-is_minus_one-clause-tree
resolve_slice-returns-then-is_minus_one-clause-tree t c = same_tree c.args.names.now c.resolve_one-then-is_minus_one.result _ _ (ap (λ site. tree.Apply (row.AllButLast site) (tree.more (expr_by (the_names c.args.names.now) c.args.a.now) tree.none)) c.made-site.ensures ∙ but_last_whole c.args.names.now (meaning.made_at (the_names c.args.names.now) c.args.n) c.args.a.now c.in-Some-high.high c.args.low.now c.args.high.now c.in-None.is c.in-Some-high.is (sym (c.is_minus_one.ensures ∙ ap (λ x. minus_in (out-Expr x)) c.get.ensures) ∙ c.if-is_minus_one.true)) c.resolve_one-then-is_minus_one.ensures.tree

pub resolve_slice-returns-else-is_minus_one-clause-tree : goal.resolve_slice-returns-else-is_minus_one-clause-tree
resolve_slice-returns-else-is_minus_one-clause-tree t c = same_tree c.args.names.now c.resolve_two.result _ _ ((λ i. tree.Apply (row.Slice (c.made-site.ensures i) false true) (tree.more (expr_by (the_names c.args.names.now) c.args.a.now) (tree.more (expr_by (the_names c.args.names.now) (c.get-else-is_minus_one.ensures i)) tree.none))) ∙ end_whole c.args.names.now (meaning.made_at (the_names c.args.names.now) c.args.n) c.args.a.now c.in-Some-high.high c.args.low.now c.args.high.now c.in-None.is c.in-Some-high.is (sym (c.is_minus_one.ensures ∙ ap (λ x. minus_in (out-Expr x)) c.get.ensures) ∙ c.if-is_minus_one.false)) c.resolve_two.ensures.tree

pub resolve_target-returns-in-Name-clause-tree : goal.resolve_target-returns-in-Name-clause-tree
resolve_target-returns-in-Name-clause-tree t c = name_aim c.args.names.now c.args.target.now c.in-Name.n c.in-Name.field-1 c.bound_name.result c.in-Name.is c.bound_name.ensures.aim

pub resolve_target-returns-in_ok-copy-in-Attr-clause-tree : goal.resolve_target-returns-in_ok-copy-in-Attr-clause-tree
resolve_target-returns-in_ok-copy-in-Attr-clause-tree t c = attr_aim c.args.names.now c.args.target.now c.in-Attr.n c.node.result c.in-Attr.a c.in-Attr.name c.in_ok-copy-in-Attr.field-0 c.in_ok-a-in-Attr.a c.in-Attr.is c.in_ok-a-in-Attr.ensures.tree c.in_ok-copy-in-Attr.ensures

pub resolve_target-returns-in_ok-i-in-Item-clause-tree : goal.resolve_target-returns-in_ok-i-in-Item-clause-tree
resolve_target-returns-in_ok-i-in-Item-clause-tree t c = item_aim c.args.names.now c.args.target.now c.in-Item.n c.node-in-Item.result c.in-Item.a c.in-Item.i c.in_ok-a-in-Item.a c.in_ok-i-in-Item.i c.in-Item.is c.in_ok-a-in-Item.ensures.tree c.in_ok-i-in-Item.ensures.tree

pub resolve_target-returns-in_ok-parts-in-Tuple-clause-tree : goal.resolve_target-returns-in_ok-parts-in-Tuple-clause-tree
resolve_target-returns-in_ok-parts-in-Tuple-clause-tree t c = tuple_aim c.args.names.now c.args.target.now c.in-Tuple.n c.node-in-Tuple.result c.in-Tuple.items c.in_ok-parts-in-Tuple.parts c.in-Tuple.is (c.in_ok-parts-in-Tuple.ensures.tree ∙ ap (map (target_by (the_names c.args.names.now))) c.as_slice.ensures)

pub resolve_subject-returns-in_ok-e-in-None-clause-tree : goal.resolve_subject-returns-in_ok-e-in-None-clause-tree
resolve_subject-returns-in_ok-e-in-None-clause-tree t c = over_whole c.args.names.now c.args.site c.args.e.now c.in_ok-e-in-None.e (none_ranged (the_names c.args.names.now) c.args.e.now c.range_args.result c.range_args.ensures.args c.in-None.is) c.in_ok-e-in-None.ensures.tree

pub resolve_subject-returns-in-Some-clause-tree : goal.resolve_subject-returns-in-Some-clause-tree
resolve_subject-returns-in-Some-clause-tree t c = same_walk c.args.names.now c.resolve_range.result _ _ (ranged (the_names c.args.names.now) c.args.e.now c.args.site c.in-Some.args.now (some_ranged (the_names c.args.names.now) c.args.e.now c.range_args.result c.in-Some.args c.range_args.ensures.args c.in-Some.is)) c.resolve_range.ensures.tree

-- ---- nodes

pub resolve_expr-returns-in-Int-clause-nodes : goal.resolve_expr-returns-in-Int-clause-nodes
resolve_expr-returns-in-Int-clause-nodes t c = λ k. let e = ap (nodes k c.args.names.now.first) c.in-Int.is ∙ int_nodes k c.args.names.now.first c.in-Int.n c.in-Int.word in let h = leaf_less k c.args.names.now.first c.node.result c.in-Int.n (row.Word c.in-Int.word) c.leaf.result (search rules) c.node.ensures in omega (arith, e, h)

pub resolve_expr-returns-in_ok-copy-in-Str-clause-nodes : goal.resolve_expr-returns-in_ok-copy-in-Str-clause-nodes
resolve_expr-returns-in_ok-copy-in-Str-clause-nodes t c = λ k. let e = ap (nodes k c.args.names.now.first) c.in-Str.is ∙ str_nodes k c.args.names.now.first c.in-Str.n c.in-Str.text in let h = leaf_less k c.args.names.now.first c.node-in-Str.result c.in-Str.n (row.Str c.in_ok-copy-in-Str.field-0) c.leaf-in-Str.result c.leaf-in-Str.ensures c.node-in-Str.ensures in omega (arith, e, h)

pub resolve_expr-returns-in-Name-clause-nodes : goal.resolve_expr-returns-in-Name-clause-nodes
resolve_expr-returns-in-Name-clause-nodes t c = ok_map c.named_value.result (λ made h k. let e = ap (nodes k c.args.names.now.first) c.in-Name.is ∙ name_nodes k c.args.names.now.first c.in-Name.n c.in-Name.field-1 in let g = h k in let o = node_is k c.args.names.now.first c.node-in-Name.result c.in-Name.n c.node-in-Name.ensures in omega (arith, e, g, o)) c.named_value.ensures.nodes

pub resolve_expr-returns-in-Unary-clause-nodes : goal.resolve_expr-returns-in-Unary-clause-nodes
resolve_expr-returns-in-Unary-clause-nodes t c = ok_map c.resolve_one.result (λ made h k. let e = ap (nodes k c.args.names.now.first) (c.in-Unary.is ∙ ap (s.Unary c.in-Unary.n c.in-Unary.op) (sym c.get.ensures)) ∙ unary_nodes k c.args.names.now.first c.in-Unary.n c.in-Unary.op c.get.result.now in let h = h k in omega (arith, e, h)) c.resolve_one.ensures.nodes

pub resolve_expr-returns-in-Binary-clause-nodes : goal.resolve_expr-returns-in-Binary-clause-nodes
resolve_expr-returns-in-Binary-clause-nodes t c = ok_map c.resolve_two.result (λ made h k. let e = ap (nodes k c.args.names.now.first) (c.in-Binary.is ∙ (λ i. s.Binary c.in-Binary.n c.in-Binary.op (sym c.get-in-Binary.ensures i) (sym c.get-in-Binary-2.ensures i))) ∙ binary_nodes k c.args.names.now.first c.in-Binary.n c.in-Binary.op c.get-in-Binary.result.now c.get-in-Binary-2.result.now in let h = h k in omega (arith, e, h)) c.resolve_two.ensures.nodes

pub resolve_expr-returns-in-Compare-clause-nodes : goal.resolve_expr-returns-in-Compare-clause-nodes
resolve_expr-returns-in-Compare-clause-nodes t c = ok_map c.resolve_two-in-Compare.result (λ made h k. let e = ap (nodes k c.args.names.now.first) (c.in-Compare.is ∙ (λ i. s.Compare c.in-Compare.n c.in-Compare.op (sym c.get-in-Compare.ensures i) (sym c.get-in-Compare-2.ensures i))) ∙ compare_nodes k c.args.names.now.first c.in-Compare.n c.in-Compare.op c.get-in-Compare.result.now c.get-in-Compare-2.result.now in let h = h k in omega (arith, e, h)) c.resolve_two-in-Compare.ensures.nodes

pub resolve_expr-returns-in-Logic-clause-nodes : goal.resolve_expr-returns-in-Logic-clause-nodes
resolve_expr-returns-in-Logic-clause-nodes t c = ok_map c.resolve_logic.result (λ made h k. let e = ap (nodes k c.args.names.now.first) (c.in-Logic.is ∙ (λ i. s.Logic c.in-Logic.n c.in-Logic.is_and (sym c.get-in-Logic.ensures i) (sym c.get-in-Logic-2.ensures i))) ∙ logic_nodes k c.args.names.now.first c.in-Logic.n c.in-Logic.is_and c.get-in-Logic.result.now c.get-in-Logic-2.result.now in let h = h k in omega (arith, e, h)) c.resolve_logic.ensures.nodes

pub resolve_expr-returns-in-Not-clause-nodes : goal.resolve_expr-returns-in-Not-clause-nodes
resolve_expr-returns-in-Not-clause-nodes t c = ok_map c.resolve_one-in-Not.result (λ made h k. let e = ap (nodes k c.args.names.now.first) (c.in-Not.is ∙ ap (s.Not c.in-Not.n) (sym c.get-in-Not.ensures)) ∙ not_nodes k c.args.names.now.first c.in-Not.n c.get-in-Not.result.now in let h = h k in omega (arith, e, h)) c.resolve_one-in-Not.ensures.nodes

pub resolve_expr-returns-in-Call-clause-nodes : goal.resolve_expr-returns-in-Call-clause-nodes
resolve_expr-returns-in-Call-clause-nodes t c = ok_map c.resolve_call.result (λ made h k. let e = ap (nodes k c.args.names.now.first) (c.in-Call.is ∙ (λ i. s.Call c.in-Call.n (sym c.get-in-Call.ensures i) (sym c.as_slice.ensures i))) ∙ call_nodes k c.args.names.now.first c.in-Call.n c.get-in-Call.result.now c.as_slice.result.now in let h = h k in omega (arith, e, h)) c.resolve_call.ensures.nodes

pub resolve_expr-returns-in-Attr-clause-nodes : goal.resolve_expr-returns-in-Attr-clause-nodes
resolve_expr-returns-in-Attr-clause-nodes t c = ok_map c.resolve_attr.result (λ made h k. let e = ap (nodes k c.args.names.now.first) (c.in-Attr.is ∙ ap (λ x. s.Attr c.in-Attr.n x c.in-Attr.name) (sym c.get-in-Attr.ensures)) ∙ attr_nodes k c.args.names.now.first c.in-Attr.n c.get-in-Attr.result.now c.in-Attr.name in let h = h k in omega (arith, e, h)) c.resolve_attr.ensures.nodes

pub resolve_expr-returns-in-Index-clause-nodes : goal.resolve_expr-returns-in-Index-clause-nodes
resolve_expr-returns-in-Index-clause-nodes t c = ok_map c.resolve_two-in-Index.result (λ made h k. let e = ap (nodes k c.args.names.now.first) (c.in-Index.is ∙ (λ i. s.Index c.in-Index.n (sym c.get-in-Index-2.ensures i) (sym c.get-in-Index-3.ensures i))) ∙ index_nodes k c.args.names.now.first c.in-Index.n c.get-in-Index-2.result.now c.get-in-Index-3.result.now in let h = h k in omega (arith, e, h)) c.resolve_two-in-Index.ensures.nodes

pub resolve_expr-returns-in-Slice-clause-nodes : goal.resolve_expr-returns-in-Slice-clause-nodes
resolve_expr-returns-in-Slice-clause-nodes t c = ok_map c.resolve_slice.result (λ made h k. let e = ap (nodes k c.args.names.now.first) (c.in-Slice.is ∙ ap (λ x. s.Slice c.in-Slice.n x c.in-Slice.low c.in-Slice.high) (sym c.get-in-Slice.ensures)) ∙ slice_nodes k c.args.names.now.first c.in-Slice.n c.get-in-Slice.result.now c.in-Slice.low c.in-Slice.high in let h = h k in omega (arith, e, h)) c.resolve_slice.ensures.nodes

pub resolve_expr-returns-in-Tuple-clause-nodes : goal.resolve_expr-returns-in-Tuple-clause-nodes
resolve_expr-returns-in-Tuple-clause-nodes t c = ok_map c.resolve_all.result (λ made h k. let e = ap (nodes k c.args.names.now.first) (c.in-Tuple.is ∙ ap (s.Tuple c.in-Tuple.n) (sym c.as_slice-in-Tuple.ensures)) ∙ tuple_nodes k c.args.names.now.first c.in-Tuple.n c.as_slice-in-Tuple.result.now in let h = h k in omega (arith, e, h)) c.resolve_all.ensures.nodes

pub resolve_expr-returns-in-List-clause-nodes : goal.resolve_expr-returns-in-List-clause-nodes
resolve_expr-returns-in-List-clause-nodes t c = ok_map c.resolve_all-in-List.result (λ made h k. let e = ap (nodes k c.args.names.now.first) (c.in-List.is ∙ ap (s.List c.in-List.n) (sym c.as_slice-in-List.ensures)) ∙ list_nodes k c.args.names.now.first c.in-List.n c.as_slice-in-List.result.now in let h = h k in omega (arith, e, h)) c.resolve_all-in-List.ensures.nodes

pub resolve_expr-returns-in-Dict-clause-nodes : goal.resolve_expr-returns-in-Dict-clause-nodes
resolve_expr-returns-in-Dict-clause-nodes t c = ok_map c.resolve_dict.result (λ made h k. let e = ap (nodes k c.args.names.now.first) (c.in-Dict.is ∙ ap (s.Dict c.in-Dict.n) (sym c.as_slice-in-Dict.ensures)) ∙ dict_nodes k c.args.names.now.first c.in-Dict.n c.as_slice-in-Dict.result.now in let h = h k in omega (arith, e, h)) c.resolve_dict.ensures.nodes

pub resolve_expr-returns-in-Comp-clause-nodes : goal.resolve_expr-returns-in-Comp-clause-nodes
resolve_expr-returns-in-Comp-clause-nodes t c = ok_map c.resolve_comp.result (λ made h k. let e = ap (nodes k c.args.names.now.first) (c.in-Comp.is ∙ (λ i. s.Comp c.in-Comp.n (sym c.get-in-Comp.ensures i) (sym c.get-target.ensures i) (sym c.get-in-Comp-2.ensures i) c.in-Comp.condition)) ∙ comp_nodes k c.args.names.now.first c.in-Comp.n c.get-in-Comp.result.now c.get-target.result.now c.get-in-Comp-2.result.now c.in-Comp.condition in let h = h k in omega (arith, e, h)) c.resolve_comp.ensures.nodes

pub resolve_all-returns-clause-nodes : goal.resolve_all-returns-clause-nodes
resolve_all-returns-clause-nodes t c = λ k. let z = ap (λ us. total (map (values k) us)) c.new-parts.ensures in let g = c.in_ok-resolve_exprs.ensures.nodes k in apply_less k c.args.names.now.first c.node.result c.args.n c.args.op c.resolve_exprs.new.parts (total (map (nodes k c.args.names.now.first) c.args.es.now)) _ refl c.node.ensures (omega (arith, z, g))

pub resolve_first-returns-clause-nodes : goal.resolve_first-returns-clause-nodes
resolve_first-returns-clause-nodes t c = λ k. let z : total (map (values k) c.push.new.self) ≡ values k c.in_ok-first.first + 0 = ap (λ us. total (map (values k) us)) (c.in_ok-push.ensures.ok ∙ ap (λ us. us ++ c.in_ok-first.first ∷ []) c.new-parts.ensures) in let f = c.in_ok-first.ensures.nodes k in let g = c.in_ok-resolve_exprs.ensures.nodes k in let h = apply_less k c.args.names.now.first c.node.result c.args.n c.args.op c.resolve_exprs.new.parts (nodes k c.args.names.now.first c.args.first.now + total (map (nodes k c.args.names.now.first) c.args.es.now)) _ refl c.node.ensures (omega (arith, z, f, g)) in omega (arith, h)

pub resolve_call-returns-in_ok-copy-in-Nothing-clause-nodes : goal.resolve_call-returns-in_ok-copy-in-Nothing-clause-nodes
resolve_call-returns-in_ok-copy-in-Nothing-clause-nodes t c = ok_map c.resolve_first.result (λ made h k. let e = ap (nodes k c.args.names.now.first) c.in-Attr.is ∙ attr_nodes k c.args.names.now.first c.in-Attr.m c.in-Attr.before c.in-Attr.name in let b = ap (nodes k c.args.names.now.first) c.get.ensures in let g = h k in omega (arith, e, b, g)) c.resolve_first.ensures.nodes

pub resolve_dict-returns-clause-nodes : goal.resolve_dict-returns-clause-nodes
resolve_dict-returns-clause-nodes t c = λ k. let e = display_counts k c.node.result c.made.result c.in_ok-pairs.pairs in let o = node_is k c.args.names.now.first c.node.result c.args.n c.node.ensures in let g = c.in_ok-pairs.ensures.nodes k in omega (arith, e, o, g)

pub resolve_isinstance-returns-in-Some-clause-nodes : goal.resolve_isinstance-returns-in-Some-clause-nodes
resolve_isinstance-returns-in-Some-clause-nodes t c = ok_map c.resolve_one.result (λ made h k. let e = ap (λ us. total (map (nodes k c.args.names.now.first) us)) (two_items c.args.args.now c.a-item.result c.class-item.result (omega arith) (omega arith) c.a-item.is c.class-item.is) in let g = h k in omega (arith, e, g)) c.resolve_one.ensures.nodes

pub resolve_named-returns-in-Function-clause-nodes : goal.resolve_named-returns-in-Function-clause-nodes
resolve_named-returns-in-Function-clause-nodes t c = ok_map c.resolve_all.result (λ made h k. let g = h k in omega (arith, g)) c.resolve_all.ensures.nodes

pub resolve_named-returns-in-Class-clause-nodes : goal.resolve_named-returns-in-Class-clause-nodes
resolve_named-returns-in-Class-clause-nodes t c = ok_map c.resolve_all-in-Class.result (λ made h k. let g = h k in omega (arith, g)) c.resolve_all-in-Class.ensures.nodes

pub resolve_ovfcheck-returns-in_ok-e-in-len1-clause-nodes : goal.resolve_ovfcheck-returns-in_ok-e-in-len1-clause-nodes
resolve_ovfcheck-returns-in_ok-e-in-len1-clause-nodes t c = ok_map c.checked.result (λ made h k. let a = ap (λ us. total (map (nodes k c.args.names.now.first) us)) (one_item c.args.args.now c.a-item.result (omega arith) (omega arith) c.a-item.is) in let e = c.in_ok-e-in-len1.ensures.nodes k in let o = node_is k c.args.names.now.first c.node-in-len1.result c.args.n c.node-in-len1.ensures in let g = h k in omega (arith, a, e, o, g)) c.checked.ensures.nodes

pub resolve_range-returns-in_ok-resolve_expr-in-len1-clause-nodes : goal.resolve_range-returns-in_ok-resolve_expr-in-len1-clause-nodes
resolve_range-returns-in_ok-resolve_expr-in-len1-clause-nodes t c = λ k. let a = ap (λ us. total (map (nodes k c.args.names.now.first) us)) (one_item c.args.args.now c.end-item.result (omega arith) (omega arith) c.end-item.is) in let e = up_counts k c.in_ok-resolve_expr-in-len1.field-0 in let g = c.in_ok-resolve_expr-in-len1.ensures.nodes k in omega (arith, a, e, g)

pub resolve_range-returns-in-len3-clause-nodes : goal.resolve_range-returns-in-len3-clause-nodes
resolve_range-returns-in-len3-clause-nodes t c = ok_map c.resolve_from-in-len3.result (λ made h k. let a = ap (λ us. total (map (nodes k c.args.names.now.first) us)) (three_items c.args.args.now c.start-item-then-args-lt4.result c.end-item-then-args-lt4.result c.step-item.result (omega arith) (omega arith) c.start-item-then-args-lt4.is c.end-item-then-args-lt4.is c.step-item.is) in let g = h k in omega (arith, a, g)) c.resolve_from-in-len3.ensures.nodes

pub resolve_slice-returns-then-is_minus_one-clause-nodes : goal.resolve_slice-returns-then-is_minus_one-clause-nodes
resolve_slice-returns-then-is_minus_one-clause-nodes t c = ok_map c.resolve_one-then-is_minus_one.result (λ made h k. let g = h k in omega (arith, g)) c.resolve_one-then-is_minus_one.ensures.nodes

pub resolve_slice-returns-else-is_minus_one-clause-nodes : goal.resolve_slice-returns-else-is_minus_one-clause-nodes
resolve_slice-returns-else-is_minus_one-clause-nodes t c = ok_map c.resolve_two.result (λ made h k. let b = ap (nodes_if k c.args.names.now.first) c.in-Some-high.is in let x = ap (nodes k c.args.names.now.first) c.get-else-is_minus_one.ensures in let g = h k in omega (arith, b, x, g)) c.resolve_two.ensures.nodes

pub resolve_target-returns-in-Name-clause-nodes : goal.resolve_target-returns-in-Name-clause-nodes
resolve_target-returns-in-Name-clause-nodes t c = λ k. let e = ap (target_nodes k c.args.names.now.first) c.in-Name.is ∙ target_name_nodes k c.args.names.now.first c.in-Name.n c.in-Name.field-1 in let g = c.bound_name.ensures.nodes k in omega (arith, e, g)

pub resolve_target-returns-in_ok-copy-in-Attr-clause-nodes : goal.resolve_target-returns-in_ok-copy-in-Attr-clause-nodes
resolve_target-returns-in_ok-copy-in-Attr-clause-nodes t c = λ k. let e = ap (target_nodes k c.args.names.now.first) c.in-Attr.is ∙ target_attr_nodes k c.args.names.now.first c.in-Attr.n c.in-Attr.a c.in-Attr.name in let v = attr_counts k c.node.result c.in_ok-a-in-Attr.a c.in_ok-copy-in-Attr.field-0 in let o = node_is k c.args.names.now.first c.node.result c.in-Attr.n c.node.ensures in let g = c.in_ok-a-in-Attr.ensures.nodes k in omega (arith, e, v, o, g)

pub resolve_target-returns-in_ok-i-in-Item-clause-nodes : goal.resolve_target-returns-in_ok-i-in-Item-clause-nodes
resolve_target-returns-in_ok-i-in-Item-clause-nodes t c = λ k. let e = ap (target_nodes k c.args.names.now.first) c.in-Item.is ∙ target_item_nodes k c.args.names.now.first c.in-Item.n c.in-Item.a c.in-Item.i in let v = item_counts k c.node-in-Item.result c.in_ok-a-in-Item.a c.in_ok-i-in-Item.i in let o = node_is k c.args.names.now.first c.node-in-Item.result c.in-Item.n c.node-in-Item.ensures in let g = c.in_ok-a-in-Item.ensures.nodes k in let j = c.in_ok-i-in-Item.ensures.nodes k in omega (arith, e, v, o, g, j)

pub resolve_target-returns-in_ok-parts-in-Tuple-clause-nodes : goal.resolve_target-returns-in_ok-parts-in-Tuple-clause-nodes
resolve_target-returns-in_ok-parts-in-Tuple-clause-nodes t c = λ k. let e = ap (target_nodes k c.args.names.now.first) c.in-Tuple.is ∙ target_tuple_nodes k c.args.names.now.first c.in-Tuple.n c.in-Tuple.items in let v = parts_counts k c.node-in-Tuple.result c.in_ok-parts-in-Tuple.parts in let o = node_is k c.args.names.now.first c.node-in-Tuple.result c.in-Tuple.n c.node-in-Tuple.ensures in let a = ap (λ us. total (map (target_nodes k c.args.names.now.first) us)) c.as_slice.ensures in let g = c.in_ok-parts-in-Tuple.ensures.nodes k in omega (arith, e, v, o, a, g)

pub resolve_subject-returns-in_ok-e-in-None-clause-nodes : goal.resolve_subject-returns-in_ok-e-in-None-clause-nodes
resolve_subject-returns-in_ok-e-in-None-clause-nodes t c = λ k. let v = over_counts k c.args.site c.in_ok-e-in-None.e in let g = c.in_ok-e-in-None.ensures.nodes k in omega (arith, v, g)

pub resolve_subject-returns-in-Some-clause-nodes : goal.resolve_subject-returns-in-Some-clause-nodes
resolve_subject-returns-in-Some-clause-nodes t c = ok_map c.resolve_range.result (λ made h k. let a = range_less k c.args.names.now.first (the_names c.args.names.now) c.args.e.now c.in-Some.args.now (some_ranged (the_names c.args.names.now) c.args.e.now c.range_args.result c.in-Some.args c.range_args.ensures.args c.in-Some.is) in let n = ap (node_at k c.args.names.now.first) c.node_of.ensures in let g = h k in omega (arith, a, n, g)) c.resolve_range.ensures.nodes

pub resolve_comp-returns-clause-nodes : goal.resolve_comp-returns-clause-nodes
resolve_comp-returns-clause-nodes t c = λ k. let v = comprehension_counts k c.node.result c.made.result c.in_ok-item.item c.in_ok-target.target c.in_ok-subject.subject c.in_ok-condition.condition in let o = node_is k c.args.names.now.first c.node.result c.args.n c.node.ensures in let a = c.in_ok-item.ensures.nodes k in let t = ap (bound_values k) c.in_ok-target.ensures in let b = c.in_ok-resolve_target.ensures.nodes k in let x = ap (walked_values k) c.in_ok-subject.ensures in let d = c.in_ok-resolve_subject.ensures.nodes k in let e = c.in_ok-condition.ensures.nodes k in omega (arith, v, o, a, t, b, x, d, e)

pub resolve_from-returns-clause-nodes : goal.resolve_from-returns-clause-nodes
resolve_from-returns-clause-nodes t c = λ k. from_less k c.in_ok-start.start c.in_ok-end.end _ _ _ (c.in_ok-start.ensures.nodes k) (c.in_ok-end.ensures.nodes k)

pub resolve_logic-returns-then-is_and-clause-nodes : goal.resolve_logic-returns-then-is_and-clause-nodes
resolve_logic-returns-then-is_and-clause-nodes t c = λ k. let v = and_counts k c.node.result c.in_ok-a.a c.in_ok-b.b in let o = node_is k c.args.names.now.first c.node.result c.args.n c.node.ensures in let a = c.in_ok-a.ensures.nodes k in let b = c.in_ok-b.ensures.nodes k in omega (arith, v, o, a, b)

pub resolve_logic-returns-else-is_and-clause-nodes : goal.resolve_logic-returns-else-is_and-clause-nodes
resolve_logic-returns-else-is_and-clause-nodes t c = λ k. let v = or_counts k c.node-else-is_and.result c.in_ok-a.a c.in_ok-b.b in let o = node_is k c.args.names.now.first c.node-else-is_and.result c.args.n c.node-else-is_and.ensures in let a = c.in_ok-a.ensures.nodes k in let b = c.in_ok-b.ensures.nodes k in omega (arith, v, o, a, b)

pub resolve_one-returns-clause-nodes : goal.resolve_one-returns-clause-nodes
resolve_one-returns-clause-nodes t c = ok_map c.one_of.result (λ made h k. let a = c.in_ok-a.ensures.nodes k in apply_less k c.args.names.now.first c.node.result c.args.n c.args.op (c.in_ok-a.a ∷ []) (nodes k c.args.names.now.first c.args.a.now) made h c.node.ensures (omega (arith, a))) c.one_of.ensures

pub resolve_two-returns-clause-nodes : goal.resolve_two-returns-clause-nodes
resolve_two-returns-clause-nodes t c = ok_map c.two_of.result (λ made h k. let a = c.in_ok-a.ensures.nodes k in let b = c.in_ok-b.ensures.nodes k in let g = apply_less k c.args.names.now.first c.node.result c.args.n c.args.op (c.in_ok-a.a ∷ c.in_ok-b.b ∷ []) (nodes k c.args.names.now.first c.args.a.now + nodes k c.args.names.now.first c.args.b.now) made h c.node.ensures (omega (arith, a, b)) in omega (arith, g)) c.two_of.ensures

pub resolve_own-returns-clause-nodes : goal.resolve_own-returns-clause-nodes
resolve_own-returns-clause-nodes t c = ok_map c.new.result (λ made h k. let a = ap (values k) h in let g = c.in_ok-e.ensures.nodes k in omega (arith, a, g)) c.new.ensures

pub resolve_option-returns-in_ok-resolve_own-in-Some-clause-nodes : goal.resolve_option-returns-in_ok-resolve_own-in-Some-clause-nodes
resolve_option-returns-in_ok-resolve_own-in-Some-clause-nodes t c = λ k. let e = ap (nodes_if k c.args.names.now.first) c.in-Some.is in let a = ap (nodes k c.args.names.now.first) c.get.ensures in let g = c.in_ok-resolve_own-in-Some.ensures.nodes k in omega (arith, e, a, g)

pub resolve_part-returns-clause-nodes : goal.resolve_part-returns-clause-nodes
resolve_part-returns-clause-nodes t c = λ k. let z : total (map (values k) c.push-3.new.self) ≡ values k c.in_ok-a.a + (values k c.in_ok-low.low + (values k c.in_ok-high.high + 0)) = ap (λ us. total (map (values k) us)) (c.in_ok-push-3.ensures.ok ∙ ap (λ us. us ++ c.in_ok-high.high ∷ []) (c.in_ok-push-2.ensures.ok ∙ ap (λ us. us ++ c.in_ok-low.low ∷ []) (c.in_ok-push.ensures.ok ∙ ap (λ us. us ++ c.in_ok-a.a ∷ []) c.new-parts.ensures))) in let a = c.in_ok-a.ensures.nodes k in let b = c.in_ok-low.ensures.nodes k in let d = c.in_ok-high.ensures.nodes k in let g = apply_less k c.args.names.now.first c.node.result c.args.n (row.Slice c.made.result true true) c.push-3.new.self (nodes k c.args.names.now.first c.args.a.now + (nodes k c.args.names.now.first c.args.low.now + nodes k c.args.names.now.first c.args.high.now)) _ refl c.node.ensures (omega (arith, z, a, b, d)) in omega (arith, g)

pub resolve_range-returns-in-len2-clause-nodes : goal.resolve_range-returns-in-len2-clause-nodes
resolve_range-returns-in-len2-clause-nodes t c = ok_map c.resolve_from.result (λ made h k. let a = ap (λ us. total (map (nodes k c.args.names.now.first) us)) (two_items c.args.args.now c.start-item.result c.end-item-then-args-lt3.result (omega arith) (omega arith) c.start-item.is c.end-item-then-args-lt3.is) in let g = h k in omega (arith, a, g)) c.resolve_from.ensures.nodes

pub resolve_range-returns-in-len4-up-clause-tree : goal.resolve_range-returns-in-len4-up-clause-tree
resolve_range-returns-in-len4-up-clause-tree t c = many_whole c.args.names.now c.args.site c.node-in-len4-up.result c.args.args.now c.meaningless-in-len4-up.result (omega arith) c.meaningless-in-len4-up.ensures

pub resolve_exprs-loop-e-preserved : goal.resolve_exprs-loop-e-preserved
resolve_exprs-loop-e-preserved t c = (
  one_more (tree_of c.args.names.now) (expr_by (the_names c.args.names.now)) c.loop-e.parts c.push.new.self c.in_ok-e.e c.e-item.result (drop c.loop-e.e-index c.args.es.now) (drop (c.loop-e.e-index + 1) c.args.es.now) _ c.in_ok-push.ensures.ok c.in_ok-e.ensures.tree (drop_at c.args.es.now c.loop-e.e-index c.e-item.result c.loop-e-test.true c.e-item.is) c.loop-e.invariant.0,
  λ k. one_more_counted (values k) (nodes k c.args.names.now.first) c.loop-e.parts c.push.new.self c.in_ok-e.e c.e-item.result (drop c.loop-e.e-index c.args.es.now) (drop (c.loop-e.e-index + 1) c.args.es.now) _ c.in_ok-push.ensures.ok (c.in_ok-e.ensures.nodes k) (drop_at c.args.es.now c.loop-e.e-index c.e-item.result c.loop-e-test.true c.e-item.is) (c.loop-e.invariant.1 k),
)

pub resolve_pairs-loop-pair-preserved : goal.resolve_pairs-loop-pair-preserved
resolve_pairs-loop-pair-preserved t c = (
  one_more (both (tree_of c.args.names.now)) (both (expr_by (the_names c.args.names.now))) c.loop-pair.parts c.push.new.self c.in_ok-pair.pair c.pair-item.result (drop c.loop-pair.pair-index c.args.pairs.now) (drop (c.loop-pair.pair-index + 1) c.args.pairs.now) _ c.in_ok-push.ensures.ok c.in_ok-pair.ensures.tree (drop_at c.args.pairs.now c.loop-pair.pair-index c.pair-item.result c.loop-pair-test.true c.pair-item.is) c.loop-pair.invariant.0,
  λ k. one_pair_counted (both (values k)) (both (nodes k c.args.names.now.first)) c.loop-pair.parts c.push.new.self c.in_ok-pair.pair c.pair-item.result (drop c.loop-pair.pair-index c.args.pairs.now) (drop (c.loop-pair.pair-index + 1) c.args.pairs.now) _ c.in_ok-push.ensures.ok (c.in_ok-pair.ensures.nodes k) (drop_at c.args.pairs.now c.loop-pair.pair-index c.pair-item.result c.loop-pair-test.true c.pair-item.is) (c.loop-pair.invariant.1 k),
)

pub resolve_targets-loop-target-preserved : goal.resolve_targets-loop-target-preserved
resolve_targets-loop-target-preserved t c = (
  one_more (aim_of c.args.names.now) (target_by (the_names c.args.names.now)) c.loop-target.parts c.push.new.self c.in_ok-target.target c.target-item.result (drop c.loop-target.target-index c.args.targets.now) (drop (c.loop-target.target-index + 1) c.args.targets.now) _ c.in_ok-push.ensures.ok c.in_ok-target.ensures.tree (drop_at c.args.targets.now c.loop-target.target-index c.target-item.result c.loop-target-test.true c.target-item.is) c.loop-target.invariant.0,
  λ k. one_more_counted (bound_values k) (target_nodes k c.args.names.now.first) c.loop-target.parts c.push.new.self c.in_ok-target.target c.target-item.result (drop c.loop-target.target-index c.args.targets.now) (drop (c.loop-target.target-index + 1) c.args.targets.now) _ c.in_ok-push.ensures.ok (c.in_ok-target.ensures.nodes k) (drop_at c.args.targets.now c.loop-target.target-index c.target-item.result c.loop-target-test.true c.target-item.is) (c.loop-target.invariant.1 k),
)

-- ---- calls: what each is given is smaller

pub resolve_all-resolve_exprs-requires : goal.resolve_all-resolve_exprs-requires
resolve_all-resolve_exprs-requires t c = (let d : 8 * sum_by expr_nodes c.args.es.now + 2 ≡ t = c.decreases in omega (arith, d), c.requires)

pub resolve_attr-resolve_one-requires : goal.resolve_attr-resolve_one-requires
resolve_attr-resolve_one-requires t c = (let d : 8 * expr_nodes c.args.a.now + 2 ≡ t = c.decreases in omega (arith, d), c.requires)

pub resolve_builtin-resolve_isinstance-requires : goal.resolve_builtin-resolve_isinstance-requires
resolve_builtin-resolve_isinstance-requires t c = (let d : 8 * sum_by expr_nodes c.args.args.now + 3 ≡ t = c.decreases in omega (arith, d), c.requires)

pub resolve_builtin-resolve_ovfcheck-requires : goal.resolve_builtin-resolve_ovfcheck-requires
resolve_builtin-resolve_ovfcheck-requires t c = (let d : 8 * sum_by expr_nodes c.args.args.now + 3 ≡ t = c.decreases in omega (arith, d), c.requires)

pub resolve_builtin-resolve_all-requires : goal.resolve_builtin-resolve_all-requires
resolve_builtin-resolve_all-requires t c = (let d : 8 * sum_by expr_nodes c.args.args.now + 3 ≡ t = c.decreases in omega (arith, d), c.requires)

pub resolve_call-resolve_named-requires : goal.resolve_call-resolve_named-requires
resolve_call-resolve_named-requires t c = (let d : 8 * (expr_nodes c.args.callee.now + sum_by expr_nodes c.args.args.now) + 5 ≡ t = c.decreases in omega (arith, d), c.requires)

pub resolve_call-resolve_first-requires : goal.resolve_call-resolve_first-requires
resolve_call-resolve_first-requires t c = (let d : 8 * (expr_nodes c.args.callee.now + sum_by expr_nodes c.args.args.now) + 5 ≡ t = c.decreases in let e = ap expr_nodes (c.in-Attr.is ∙ ap (λ x. s.Attr c.in-Attr.m x c.in-Attr.name) (sym c.get.ensures)) ∙ attr_size c.in-Attr.m c.get.result.now c.in-Attr.name in omega (arith, d, e), c.requires)

pub resolve_call-resolve_first-requires-else-is_method : goal.resolve_call-resolve_first-requires-else-is_method
resolve_call-resolve_first-requires-else-is_method t c = (let d : 8 * (expr_nodes c.args.callee.now + sum_by expr_nodes c.args.args.now) + 5 ≡ t = c.decreases in omega (arith, d), c.requires)

pub resolve_call-resolve_named-requires-in_default-meant : goal.resolve_call-resolve_named-requires-in_default-meant
resolve_call-resolve_named-requires-in_default-meant t c = (let d : 8 * (expr_nodes c.args.callee.now + sum_by expr_nodes c.args.args.now) + 5 ≡ t = c.decreases in omega (arith, d), c.requires)

pub resolve_call-resolve_first-requires-in_default : goal.resolve_call-resolve_first-requires-in_default
resolve_call-resolve_first-requires-in_default t c = (let d : 8 * (expr_nodes c.args.callee.now + sum_by expr_nodes c.args.args.now) + 5 ≡ t = c.decreases in omega (arith, d), c.requires)

pub resolve_comp-resolve_own-requires : goal.resolve_comp-resolve_own-requires
resolve_comp-resolve_own-requires t c = (let d : 8 * (expr_nodes c.args.item.now + target_size c.args.target.now + expr_nodes c.args.subject.now + option_map_or expr_nodes c.args.condition.now 0) + 3 ≡ t = c.decreases in omega (arith, d), c.requires)

pub resolve_comp-resolve_target-requires : goal.resolve_comp-resolve_target-requires
resolve_comp-resolve_target-requires t c = (let d : 8 * (expr_nodes c.args.item.now + target_size c.args.target.now + expr_nodes c.args.subject.now + option_map_or expr_nodes c.args.condition.now 0) + 3 ≡ t = c.decreases in omega (arith, d), c.requires)

pub resolve_comp-resolve_subject-requires : goal.resolve_comp-resolve_subject-requires
resolve_comp-resolve_subject-requires t c = (let d : 8 * (expr_nodes c.args.item.now + target_size c.args.target.now + expr_nodes c.args.subject.now + option_map_or expr_nodes c.args.condition.now 0) + 3 ≡ t = c.decreases in omega (arith, d), c.requires)

pub resolve_comp-resolve_option-requires : goal.resolve_comp-resolve_option-requires
resolve_comp-resolve_option-requires t c = (let d : 8 * (expr_nodes c.args.item.now + target_size c.args.target.now + expr_nodes c.args.subject.now + option_map_or expr_nodes c.args.condition.now 0) + 3 ≡ t = c.decreases in omega (arith, d), c.requires)

pub resolve_dict-resolve_pairs-requires : goal.resolve_dict-resolve_pairs-requires
resolve_dict-resolve_pairs-requires t c = (let d : 8 * sum_by (λ p. expr_nodes p.0 + expr_nodes p.1) c.args.pairs.now + 3 ≡ t = c.decreases in omega (arith, d), c.requires)

pub resolve_expr-resolve_one-requires : goal.resolve_expr-resolve_one-requires
resolve_expr-resolve_one-requires t c = (let d : 8 * expr_nodes c.args.e.now ≡ t = c.decreases in let e = ap expr_nodes (c.in-Unary.is ∙ ap (s.Unary c.in-Unary.n c.in-Unary.op) (sym c.get.ensures)) ∙ unary_size c.in-Unary.n c.in-Unary.op c.get.result.now in omega (arith, d, e), c.requires)

pub resolve_expr-resolve_two-requires : goal.resolve_expr-resolve_two-requires
resolve_expr-resolve_two-requires t c = (let d : 8 * expr_nodes c.args.e.now ≡ t = c.decreases in let e = ap expr_nodes (c.in-Binary.is ∙ (λ i. s.Binary c.in-Binary.n c.in-Binary.op (sym c.get-in-Binary.ensures i) (sym c.get-in-Binary-2.ensures i))) ∙ binary_size c.in-Binary.n c.in-Binary.op c.get-in-Binary.result.now c.get-in-Binary-2.result.now in omega (arith, d, e), c.requires)

pub resolve_expr-resolve_two-requires-in-Compare : goal.resolve_expr-resolve_two-requires-in-Compare
resolve_expr-resolve_two-requires-in-Compare t c = (let d : 8 * expr_nodes c.args.e.now ≡ t = c.decreases in let e = ap expr_nodes (c.in-Compare.is ∙ (λ i. s.Compare c.in-Compare.n c.in-Compare.op (sym c.get-in-Compare.ensures i) (sym c.get-in-Compare-2.ensures i))) ∙ compare_size c.in-Compare.n c.in-Compare.op c.get-in-Compare.result.now c.get-in-Compare-2.result.now in omega (arith, d, e), c.requires)

pub resolve_expr-resolve_logic-requires : goal.resolve_expr-resolve_logic-requires
resolve_expr-resolve_logic-requires t c = (let d : 8 * expr_nodes c.args.e.now ≡ t = c.decreases in let e = ap expr_nodes (c.in-Logic.is ∙ (λ i. s.Logic c.in-Logic.n c.in-Logic.is_and (sym c.get-in-Logic.ensures i) (sym c.get-in-Logic-2.ensures i))) ∙ logic_size c.in-Logic.n c.in-Logic.is_and c.get-in-Logic.result.now c.get-in-Logic-2.result.now in omega (arith, d, e), c.requires)

pub resolve_expr-resolve_one-requires-in-Not : goal.resolve_expr-resolve_one-requires-in-Not
resolve_expr-resolve_one-requires-in-Not t c = (let d : 8 * expr_nodes c.args.e.now ≡ t = c.decreases in let e = ap expr_nodes (c.in-Not.is ∙ ap (s.Not c.in-Not.n) (sym c.get-in-Not.ensures)) ∙ not_size c.in-Not.n c.get-in-Not.result.now in omega (arith, d, e), c.requires)

pub resolve_expr-resolve_call-requires : goal.resolve_expr-resolve_call-requires
resolve_expr-resolve_call-requires t c = (let d : 8 * expr_nodes c.args.e.now ≡ t = c.decreases in let e = ap expr_nodes (c.in-Call.is ∙ (λ i. s.Call c.in-Call.n (sym c.get-in-Call.ensures i) (sym c.as_slice.ensures i))) ∙ call_size c.in-Call.n c.get-in-Call.result.now c.as_slice.result.now in omega (arith, d, e), c.requires)

pub resolve_expr-resolve_attr-requires : goal.resolve_expr-resolve_attr-requires
resolve_expr-resolve_attr-requires t c = (let d : 8 * expr_nodes c.args.e.now ≡ t = c.decreases in let e = ap expr_nodes (c.in-Attr.is ∙ ap (λ x. s.Attr c.in-Attr.n x c.in-Attr.name) (sym c.get-in-Attr.ensures)) ∙ attr_size c.in-Attr.n c.get-in-Attr.result.now c.in-Attr.name in omega (arith, d, e), c.requires)

pub resolve_expr-resolve_two-requires-in-Index : goal.resolve_expr-resolve_two-requires-in-Index
resolve_expr-resolve_two-requires-in-Index t c = (let d : 8 * expr_nodes c.args.e.now ≡ t = c.decreases in let e = ap expr_nodes (c.in-Index.is ∙ (λ i. s.Index c.in-Index.n (sym c.get-in-Index-2.ensures i) (sym c.get-in-Index-3.ensures i))) ∙ index_size c.in-Index.n c.get-in-Index-2.result.now c.get-in-Index-3.result.now in omega (arith, d, e), c.requires)

pub resolve_expr-resolve_slice-requires : goal.resolve_expr-resolve_slice-requires
resolve_expr-resolve_slice-requires t c = (let d : 8 * expr_nodes c.args.e.now ≡ t = c.decreases in let e = ap expr_nodes (c.in-Slice.is ∙ ap (λ x. s.Slice c.in-Slice.n x c.in-Slice.low c.in-Slice.high) (sym c.get-in-Slice.ensures)) ∙ slice_size c.in-Slice.n c.get-in-Slice.result.now c.in-Slice.low c.in-Slice.high in omega (arith, d, e), c.requires)

pub resolve_expr-resolve_all-requires : goal.resolve_expr-resolve_all-requires
resolve_expr-resolve_all-requires t c = (let d : 8 * expr_nodes c.args.e.now ≡ t = c.decreases in let e = ap expr_nodes (c.in-Tuple.is ∙ ap (s.Tuple c.in-Tuple.n) (sym c.as_slice-in-Tuple.ensures)) ∙ tuple_size c.in-Tuple.n c.as_slice-in-Tuple.result.now in omega (arith, d, e), c.requires)

pub resolve_expr-resolve_all-requires-in-List : goal.resolve_expr-resolve_all-requires-in-List
resolve_expr-resolve_all-requires-in-List t c = (let d : 8 * expr_nodes c.args.e.now ≡ t = c.decreases in let e = ap expr_nodes (c.in-List.is ∙ ap (s.List c.in-List.n) (sym c.as_slice-in-List.ensures)) ∙ list_size c.in-List.n c.as_slice-in-List.result.now in omega (arith, d, e), c.requires)

pub resolve_expr-resolve_dict-requires : goal.resolve_expr-resolve_dict-requires
resolve_expr-resolve_dict-requires t c = (let d : 8 * expr_nodes c.args.e.now ≡ t = c.decreases in let e = ap expr_nodes (c.in-Dict.is ∙ ap (s.Dict c.in-Dict.n) (sym c.as_slice-in-Dict.ensures)) ∙ dict_size c.in-Dict.n c.as_slice-in-Dict.result.now in omega (arith, d, e), c.requires)

pub resolve_expr-resolve_comp-requires : goal.resolve_expr-resolve_comp-requires
resolve_expr-resolve_comp-requires t c = (let d : 8 * expr_nodes c.args.e.now ≡ t = c.decreases in let e = ap expr_nodes (c.in-Comp.is ∙ (λ i. s.Comp c.in-Comp.n (sym c.get-in-Comp.ensures i) (sym c.get-target.ensures i) (sym c.get-in-Comp-2.ensures i) c.in-Comp.condition)) ∙ comp_size c.in-Comp.n c.get-in-Comp.result.now c.get-target.result.now c.get-in-Comp-2.result.now c.in-Comp.condition in omega (arith, d, e), c.requires)

pub resolve_exprs-resolve_expr-requires : goal.resolve_exprs-resolve_expr-requires
resolve_exprs-resolve_expr-requires t c = (let d : 8 * sum_by expr_nodes c.args.es.now + 1 ≡ t = c.decreases in let e = item_less expr_nodes c.args.es.now c.loop-e.e-index c.e-item.result c.loop-e-test.true c.e-item.is in omega (arith, d, e), c.requires)

pub resolve_first-resolve_expr-requires : goal.resolve_first-resolve_expr-requires
resolve_first-resolve_expr-requires t c = (let d : 8 * (expr_nodes c.args.first.now + sum_by expr_nodes c.args.es.now) + 2 ≡ t = c.decreases in omega (arith, d), c.requires)

pub resolve_first-resolve_exprs-requires : goal.resolve_first-resolve_exprs-requires
resolve_first-resolve_exprs-requires t c = (let d : 8 * (expr_nodes c.args.first.now + sum_by expr_nodes c.args.es.now) + 2 ≡ t = c.decreases in omega (arith, d), c.requires)

pub resolve_from-resolve_expr-requires : goal.resolve_from-resolve_expr-requires
resolve_from-resolve_expr-requires t c = (let d : 8 * (expr_nodes c.args.start.now + expr_nodes c.args.end.now) + 1 ≡ t = c.decreases in omega (arith, d), c.requires)

pub resolve_from-resolve_expr-requires-2 : goal.resolve_from-resolve_expr-requires-2
resolve_from-resolve_expr-requires-2 t c = (let d : 8 * (expr_nodes c.args.start.now + expr_nodes c.args.end.now) + 1 ≡ t = c.decreases in omega (arith, d), c.requires)

pub resolve_isinstance-resolve_one-requires : goal.resolve_isinstance-resolve_one-requires
resolve_isinstance-resolve_one-requires t c = (let d : 8 * sum_by expr_nodes c.args.args.now + 2 ≡ t = c.decreases in let e = item_less expr_nodes c.args.args.now 0 c.a-item.result (omega arith) c.a-item.is in omega (arith, d, e), c.requires)

pub resolve_logic-resolve_own-requires : goal.resolve_logic-resolve_own-requires
resolve_logic-resolve_own-requires t c = (let d : 8 * (expr_nodes c.args.a.now + expr_nodes c.args.b.now) + 2 ≡ t = c.decreases in omega (arith, d), c.requires)

pub resolve_logic-resolve_own-requires-2 : goal.resolve_logic-resolve_own-requires-2
resolve_logic-resolve_own-requires-2 t c = (let d : 8 * (expr_nodes c.args.a.now + expr_nodes c.args.b.now) + 2 ≡ t = c.decreases in omega (arith, d), c.requires)

pub resolve_named-resolve_all-requires : goal.resolve_named-resolve_all-requires
resolve_named-resolve_all-requires t c = (let d : 8 * (expr_nodes c.args.callee.now + sum_by expr_nodes c.args.args.now) + 4 ≡ t = c.decreases in omega (arith, d), c.requires)

pub resolve_named-resolve_all-requires-in-Class : goal.resolve_named-resolve_all-requires-in-Class
resolve_named-resolve_all-requires-in-Class t c = (let d : 8 * (expr_nodes c.args.callee.now + sum_by expr_nodes c.args.args.now) + 4 ≡ t = c.decreases in omega (arith, d), c.requires)

pub resolve_named-resolve_builtin-requires : goal.resolve_named-resolve_builtin-requires
resolve_named-resolve_builtin-requires t c = (let d : 8 * (expr_nodes c.args.callee.now + sum_by expr_nodes c.args.args.now) + 4 ≡ t = c.decreases in omega (arith, d), c.requires)

pub resolve_named-resolve_first-requires : goal.resolve_named-resolve_first-requires
resolve_named-resolve_first-requires t c = (let d : 8 * (expr_nodes c.args.callee.now + sum_by expr_nodes c.args.args.now) + 4 ≡ t = c.decreases in omega (arith, d), c.requires)

pub resolve_one-resolve_expr-requires : goal.resolve_one-resolve_expr-requires
resolve_one-resolve_expr-requires t c = (let d : 8 * expr_nodes c.args.a.now + 1 ≡ t = c.decreases in omega (arith, d), c.requires)

pub resolve_option-resolve_own-requires : goal.resolve_option-resolve_own-requires
resolve_option-resolve_own-requires t c = (let d : 8 * option_map_or expr_nodes c.args.e.now 0 + 2 ≡ t = c.decreases in let e = ap (λ o. option_map_or expr_nodes o 0) c.in-Some.is ∙ ap expr_nodes (sym c.get.ensures) in omega (arith, d, e), c.requires)

pub resolve_ovfcheck-resolve_expr-requires : goal.resolve_ovfcheck-resolve_expr-requires
resolve_ovfcheck-resolve_expr-requires t c = (let d : 8 * sum_by expr_nodes c.args.args.now + 2 ≡ t = c.decreases in let e = item_less expr_nodes c.args.args.now 0 c.a-item.result (omega arith) c.a-item.is in omega (arith, d, e), c.requires)

pub resolve_own-resolve_expr-requires : goal.resolve_own-resolve_expr-requires
resolve_own-resolve_expr-requires t c = (let d : 8 * expr_nodes c.args.e.now + 1 ≡ t = c.decreases in omega (arith, d), c.requires)

pub resolve_pair-resolve_expr-requires : goal.resolve_pair-resolve_expr-requires
resolve_pair-resolve_expr-requires t c = (let d : 8 * (expr_nodes c.args.pair.now.0 + expr_nodes c.args.pair.now.1) + 1 ≡ t = c.decreases in omega (arith, d), c.requires)

pub resolve_pair-resolve_expr-requires-2 : goal.resolve_pair-resolve_expr-requires-2
resolve_pair-resolve_expr-requires-2 t c = (let d : 8 * (expr_nodes c.args.pair.now.0 + expr_nodes c.args.pair.now.1) + 1 ≡ t = c.decreases in omega (arith, d), c.requires)

pub resolve_pairs-resolve_pair-requires : goal.resolve_pairs-resolve_pair-requires
resolve_pairs-resolve_pair-requires t c = (let d : 8 * sum_by (λ p. expr_nodes p.0 + expr_nodes p.1) c.args.pairs.now + 2 ≡ t = c.decreases in let e = item_less (λ p. expr_nodes p.0 + expr_nodes p.1) c.args.pairs.now c.loop-pair.pair-index c.pair-item.result c.loop-pair-test.true c.pair-item.is in omega (arith, d, e), c.requires)

pub resolve_part-resolve_expr-requires : goal.resolve_part-resolve_expr-requires
resolve_part-resolve_expr-requires t c = (let d : 8 * (expr_nodes c.args.a.now + expr_nodes c.args.low.now + expr_nodes c.args.high.now) + 1 ≡ t = c.decreases in omega (arith, d), c.requires)

pub resolve_part-resolve_expr-requires-2 : goal.resolve_part-resolve_expr-requires-2
resolve_part-resolve_expr-requires-2 t c = (let d : 8 * (expr_nodes c.args.a.now + expr_nodes c.args.low.now + expr_nodes c.args.high.now) + 1 ≡ t = c.decreases in omega (arith, d), c.requires)

pub resolve_part-resolve_expr-requires-3 : goal.resolve_part-resolve_expr-requires-3
resolve_part-resolve_expr-requires-3 t c = (let d : 8 * (expr_nodes c.args.a.now + expr_nodes c.args.low.now + expr_nodes c.args.high.now) + 1 ≡ t = c.decreases in omega (arith, d), c.requires)

pub resolve_range-resolve_expr-requires : goal.resolve_range-resolve_expr-requires
resolve_range-resolve_expr-requires t c = (let d : 8 * sum_by expr_nodes c.args.args.now + 2 ≡ t = c.decreases in let e = item_less expr_nodes c.args.args.now 0 c.end-item.result (omega arith) c.end-item.is in omega (arith, d, e), c.requires)

pub resolve_range-resolve_from-requires : goal.resolve_range-resolve_from-requires
resolve_range-resolve_from-requires t c = (let d : 8 * sum_by expr_nodes c.args.args.now + 2 ≡ t = c.decreases in let e = ap (sum_by expr_nodes) (two_items c.args.args.now c.start-item.result c.end-item-then-args-lt3.result (omega arith) (omega arith) c.start-item.is c.end-item-then-args-lt3.is) in omega (arith, d, e), c.requires)

pub resolve_range-resolve_from-requires-in-len3 : goal.resolve_range-resolve_from-requires-in-len3
resolve_range-resolve_from-requires-in-len3 t c = (let d : 8 * sum_by expr_nodes c.args.args.now + 2 ≡ t = c.decreases in let e = ap (sum_by expr_nodes) (three_items c.args.args.now c.start-item-then-args-lt4.result c.end-item-then-args-lt4.result c.step-item.result (omega arith) (omega arith) c.start-item-then-args-lt4.is c.end-item-then-args-lt4.is c.step-item.is) in omega (arith, d, e), c.requires)

pub resolve_slice-resolve_one-requires : goal.resolve_slice-resolve_one-requires
resolve_slice-resolve_one-requires t c = (let d : 8 * (expr_nodes c.args.a.now + option_map_or expr_nodes c.args.low.now 0 + option_map_or expr_nodes c.args.high.now 0) + 2 ≡ t = c.decreases in omega (arith, d), c.requires)

pub resolve_slice-resolve_one-requires-then-is_minus_one : goal.resolve_slice-resolve_one-requires-then-is_minus_one
resolve_slice-resolve_one-requires-then-is_minus_one t c = (let d : 8 * (expr_nodes c.args.a.now + option_map_or expr_nodes c.args.low.now 0 + option_map_or expr_nodes c.args.high.now 0) + 2 ≡ t = c.decreases in omega (arith, d), c.requires)

pub resolve_slice-resolve_two-requires : goal.resolve_slice-resolve_two-requires
resolve_slice-resolve_two-requires t c = (let d : 8 * (expr_nodes c.args.a.now + option_map_or expr_nodes c.args.low.now 0 + option_map_or expr_nodes c.args.high.now 0) + 2 ≡ t = c.decreases in let e = ap (λ o. option_map_or expr_nodes o 0) c.in-Some-high.is ∙ ap expr_nodes (sym c.get-else-is_minus_one.ensures) in omega (arith, d, e), c.requires)

pub resolve_subject-resolve_expr-requires : goal.resolve_subject-resolve_expr-requires
resolve_subject-resolve_expr-requires t c = (let d : 8 * expr_nodes c.args.e.now + 1 ≡ t = c.decreases in omega (arith, d), c.requires)

pub resolve_subject-resolve_range-requires : goal.resolve_subject-resolve_range-requires
resolve_subject-resolve_range-requires t c = (let d : 8 * expr_nodes c.args.e.now + 1 ≡ t = c.decreases in let e : sum_by expr_nodes c.in-Some.args.now < expr_nodes c.args.e.now = c.in-Some.ensures.smaller in omega (arith, d, e), c.requires)

pub resolve_target-resolve_expr-requires : goal.resolve_target-resolve_expr-requires
resolve_target-resolve_expr-requires t c = (let d : 8 * target_size c.args.target.now ≡ t = c.decreases in let e = ap target_size c.in-Attr.is ∙ aim_attr_size c.in-Attr.n c.in-Attr.a c.in-Attr.name in omega (arith, d, e), c.requires)

pub resolve_target-resolve_expr-requires-in-Item : goal.resolve_target-resolve_expr-requires-in-Item
resolve_target-resolve_expr-requires-in-Item t c = (let d : 8 * target_size c.args.target.now ≡ t = c.decreases in let e = ap target_size c.in-Item.is ∙ aim_item_size c.in-Item.n c.in-Item.a c.in-Item.i in omega (arith, d, e), c.requires)

pub resolve_target-resolve_expr-requires-in-Item-2 : goal.resolve_target-resolve_expr-requires-in-Item-2
resolve_target-resolve_expr-requires-in-Item-2 t c = (let d : 8 * target_size c.args.target.now ≡ t = c.decreases in let e = ap target_size c.in-Item.is ∙ aim_item_size c.in-Item.n c.in-Item.a c.in-Item.i in omega (arith, d, e), c.requires)

pub resolve_target-resolve_targets-requires : goal.resolve_target-resolve_targets-requires
resolve_target-resolve_targets-requires t c = (let d : 8 * target_size c.args.target.now ≡ t = c.decreases in let e = ap target_size c.in-Tuple.is ∙ aim_tuple_size c.in-Tuple.n c.in-Tuple.items in let a = ap (sum_by target_size) c.as_slice.ensures in omega (arith, d, e, a), c.requires)

pub resolve_targets-resolve_target-requires : goal.resolve_targets-resolve_target-requires
resolve_targets-resolve_target-requires t c = (let d : 8 * sum_by target_size c.args.targets.now + 1 ≡ t = c.decreases in let e = item_less target_size c.args.targets.now c.loop-target.target-index c.target-item.result c.loop-target-test.true c.target-item.is in omega (arith, d, e), c.requires)

pub resolve_two-resolve_expr-requires : goal.resolve_two-resolve_expr-requires
resolve_two-resolve_expr-requires t c = (let d : 8 * (expr_nodes c.args.a.now + expr_nodes c.args.b.now) + 1 ≡ t = c.decreases in omega (arith, d), c.requires)

pub resolve_two-resolve_expr-requires-2 : goal.resolve_two-resolve_expr-requires-2
resolve_two-resolve_expr-requires-2 t c = (let d : 8 * (expr_nodes c.args.a.now + expr_nodes c.args.b.now) + 1 ≡ t = c.decreases in omega (arith, d), c.requires)
