use Rattle.std.proofs.Common.{◌≡◌, ◌+◌, length, refl, sym, ◌∙◌, inl, inr, arith, add-one}
use Rattle.flow_space.proofs.Items.{first_rest, none_of}
use Rattle.resolved_meaning.proofs.Layers.{constant_in}
use Rattle.flow_space.proofs.Noded.{count_is, parts_count, local_is, constant_is, apply_is, and_is, or_is, display_is, comprehension_is, over_is, up_is, from_is, name_is, attr_is, item_is, parts_is}
use Rattle.flow_space.specs.Placed.{taken_place, taken_count}
use Rattle.flow_space.proofs.Parts.{either, helps, ok_map, part_map, part_then, part_none, part_patch, kept}
use Rattle.resolved_meaning.specs.Trees.{program_of}
use Rattle.flow_space.specs.Placed.{scope_of}
use Rattle.flow_space.specs.Trees.{expr_of}
use Rattle.flow_space.proofs.Opposites.{ways_of_no_operand, negates_no_operand, not_stands, not_tests, not_has, test_has}
use Rattle.flow_space.proofs.Plain.{is_plain_subject}
use Rattle.flow_space.proofs.Sources.{inner_binds, inner_path}
use Rattle.flow_space.proofs.expression.+expr.Goals as goal

-- ---- expressions

pub put_expr-returns-in_ok-place-in-Local : goal.put_expr-returns-in_ok-place-in-Local
put_expr-returns-in_ok-place-in-Local t c =
    let lt = c.in_ok-place-in-Local.ensures.within in
    let e = rw c.in_ok-place-in-Local.ensures.place at c.put_copy.ensures in
    ok_map c.put_copy.result (λ b. part_map (λ r gs f lo hi h. rw (c.in-Local.is, local_is) (lt, h)) (λ r x g w k. rw (c.in-Local.is, local_is) k)) e

pub put_expr-returns-in_ok-copy_const-in-Constant : goal.put_expr-returns-in_ok-copy_const-in-Constant
put_expr-returns-in_ok-copy_const-in-Constant t c =
    let e = rw (c.op_at.ensures, c.in_ok-copy_const-in-Constant.ensures) at c.put_leaf.ensures in
    ok_map c.put_leaf.result (λ b. part_map (λ r gs f lo hi h. rw (c.in-Constant.is, constant_is) (constant_in r c.in-Constant.value, h)) (λ r x g w k. rw (c.in-Constant.is, constant_is) k)) e

pub put_expr-returns-in-Apply : goal.put_expr-returns-in-Apply
put_expr-returns-in-Apply t c =
    let e = rw c.as_slice.ensures at c.put_apply.ensures in
    ok_map c.put_apply.result (λ b. part_map (λ r gs f lo hi h. rw (c.in-Apply.is, apply_is) h) (λ r x g w k. rw (c.in-Apply.is, apply_is) k)) e

pub put_expr-returns-in-And : goal.put_expr-returns-in-And
put_expr-returns-in-And t c =
    let e = rw (c.get.ensures, c.get-in-And.ensures) at c.put_logic.ensures in
    ok_map c.put_logic.result (λ b. part_map (λ r gs f lo hi h. rw (c.in-And.is, and_is) h) (λ r x g w k. rw (c.in-And.is, and_is) k)) e

pub put_expr-returns-in-Or : goal.put_expr-returns-in-Or
put_expr-returns-in-Or t c =
    let e = rw (c.get-in-Or.ensures, c.get-in-Or-2.ensures) at c.put_logic-in-Or.ensures in
    ok_map c.put_logic-in-Or.result (λ b. part_map (λ r gs f lo hi h. rw (c.in-Or.is, or_is) h) (λ r x g w k. rw (c.in-Or.is, or_is) k)) e

pub put_expr-returns-in-Display : goal.put_expr-returns-in-Display
put_expr-returns-in-Display t c =
    let e = rw c.as_slice-in-Display.ensures at c.put_display.ensures in
    ok_map c.put_display.result (λ b. part_map (λ r gs f lo hi h. rw (c.in-Display.is, display_is) h) (λ r x g w k. rw (c.in-Display.is, display_is) k)) e

pub put_expr-returns-in-Comprehension : goal.put_expr-returns-in-Comprehension
put_expr-returns-in-Comprehension t c =
    let e = rw (c.get-in-Comprehension.ensures, c.get-in-Comprehension-2.ensures, c.get-in-Comprehension-3.ensures) at c.put_comprehension.ensures in
    ok_map c.put_comprehension.result (λ b. part_map (λ r gs f lo hi h. rw (c.in-Comprehension.is, comprehension_is) h) (λ r x g w k. rw (c.in-Comprehension.is, comprehension_is) k)) e

pub put_exprs-returns-in_ok-next-in-len1-up : goal.put_exprs-returns-in_ok-next-in-len1-up
put_exprs-returns-in_ok-next-in-len1-up t c =
    let e = first_rest c.args.es.now c.e-item.result (omega arith) c.e-item.is in
    let later = rw c.in_ok-more-in-len1-up.ensures at c.in_ok-next-in-len1-up.ensures in
    ok_map c.put_expr.result (λ b h.
    part_map (λ r gs f lo hi k. rw e (c.in_ok-next-in-len1-up.next, k.0, k.1, k.2)) (λ r x g w k. rw e (either (λ a. inr a) (λ a. inl a) k)) (part_then later h)) c.put_expr.ensures

pub put_apply-returns-in-empty : goal.put_apply-returns-in-empty
put_apply-returns-in-empty t c =
    let e = none_of c.args.es.now (omega arith) in
    ok_map c.put_operation.result (λ b. part_map (λ r gs f lo hi h. rw e (inl (ways_of_no_operand c.args.op.now, rw e at h))) (λ r x g w k. either (λ a. inl a) (λ a. inr (inr a)) k)) c.put_operation.ensures

pub put_apply-returns-then-by_ways : goal.put_apply-returns-then-by_ways
put_apply-returns-then-by_ways t c =
    let e = first_rest c.args.es.now c.a-item.result (omega arith) c.a-item.is in
    let o = c.args.op.now in
    let s = c.args.scope.now in
    ok_map c.put_not.result (λ b.
    part_map (λ r gs f lo hi h. rw e (not_stands (program_of r) gs f s.locals (scope_of s) c.args.node c.args.value o (expr_of r.sites c.a-item.result) _ (sym (c.by_ways.ensures r.sites) ∙ c.if-by_ways.true) b c.args.m c.args.norm lo hi h)) (λ r x g w k. rw e (not_has x g w c.args.node c.args.value o (expr_of r.sites c.a-item.result) _ (sym (c.by_ways.ensures r.sites) ∙ c.if-by_ways.true) k))) c.put_not.ensures

pub put_apply-returns-else-by_ways : goal.put_apply-returns-else-by_ways
put_apply-returns-else-by_ways t c =
    let e = first_rest c.args.es.now c.a-item.result (omega arith) c.a-item.is in
    ok_map c.put_operation-else-by_ways.result (λ b. part_map (λ r gs f lo hi h. rw e (inl (sym (c.by_ways.ensures r.sites) ∙ c.if-by_ways.false, rw (← count_is r.sites c.args.es.now, e) at h))) (λ r x g w k. either (λ a. inl a) (λ a. inr (inr a)) k)) c.put_operation-else-by_ways.ensures

pub put_operation-returns : goal.put_operation-returns
put_operation-returns t c =
    let last = rw (c.op_at.ensures, c.in_ok-op.ensures) at c.in_ok-last.ensures in
    ok_map c.put_exprs.result (λ b h.
    part_map (λ r gs f lo hi k. (c.in_ok-last.last, k.0, k.1, k.2)) (λ r x g w k. k) (part_then last h)) c.put_exprs.ensures

pub put_not-returns : goal.put_not-returns
put_not-returns t c =
    let no = rw c.op_at.ensures at c.in_ok-no.ensures in
    let yes = rw c.op_at-2.ensures at c.in_ok-yes.ensures in
    ok_map c.put_test.result (λ b h.
    part_map (λ r gs f lo hi k. (c.in_ok-meet.meet, c.in_ok-yes.yes, c.in_ok-no.no, k.0, k.2.0, k.2.2.0, k.1, k.2.1, k.2.2.1, k.2.2.2)) (λ r x g w k. either (λ a. inl (inl a)) (either (λ a. inl (inr (helps a))) (either (λ a. inl (inr (helps a))) (either (λ a. inl (inr a)) (λ a. inr a)))) k)
    (part_then c.in_ok-meet.ensures (part_then no (part_then yes h)))) c.put_test.ensures

pub put_logic-returns-then-is_and : goal.put_logic-returns-then-is_and
put_logic-returns-then-is_and t c =
    ok_map c.put_simple.result (λ b h.
    part_map (λ r gs f lo hi k. rw c.if-is_and.true (c.in_ok-meet.meet, c.in_ok-right.right, k.0, k.2.0, k.1, k.2.1, k.2.2)) (λ r x g w k. either (λ a. inl (inl a)) (either (λ a. inr (inr a)) (either (λ a. inl (inr a)) (λ a. inr (inl a)))) k)
    (part_then c.in_ok-meet.ensures (part_then c.in_ok-right.ensures h))) c.put_simple.ensures

pub put_logic-returns-else-is_and : goal.put_logic-returns-else-is_and
put_logic-returns-else-is_and t c =
    ok_map c.put_simple-else-is_and.result (λ b h.
    part_map (λ r gs f lo hi k. rw c.if-is_and.false (c.in_ok-meet.meet, c.in_ok-right.right, k.0, k.2.0, k.1, k.2.1, k.2.2)) (λ r x g w k. either (λ a. inl (inl a)) (either (λ a. inr (inr a)) (either (λ a. inl (inr a)) (λ a. inr (inl a)))) k)
    (part_then c.in_ok-meet.ensures (part_then c.in_ok-right.ensures h))) c.put_simple-else-is_and.ensures

-- ---- none of a list

pub put_exprs-returns-in-empty : goal.put_exprs-returns-in-empty
put_exprs-returns-in-empty t c =
    let e = none_of c.args.es.now (omega arith) in
    part_none _ (λ r gs f lo. rw e (refl, refl))

pub put_pairs-returns-in-empty : goal.put_pairs-returns-in-empty
put_pairs-returns-in-empty t c =
    let e = none_of c.args.pairs.now (omega arith) in
    part_none _ (λ r gs f lo. rw e (refl, refl))

pub put_items-returns-in-empty : goal.put_items-returns-in-empty
put_items-returns-in-empty t c =
    let e = none_of c.args.parts.now (omega arith) in
    part_none _ (λ r gs f lo. rw e (refl, refl))

-- ---- tests

pub put_test-returns-in_ok-right-in-And : goal.put_test-returns-in_ok-right-in-And
put_test-returns-in_ok-right-in-And t c =
    let right = rw c.get.ensures at c.in_ok-right-in-And.ensures in
    let left = rw c.get-in-And.ensures at c.put_test-in-And.ensures in
    ok_map c.put_test-in-And.result (λ b h.
    part_map (λ r gs f lo hi k. rw (c.in-And.is, and_is) (c.in_ok-right-in-And.right, k.0, k.1, k.2)) (λ r x g w k. rw (c.in-And.is, and_is) (either (either (λ a. inr (inl (inr a))) (λ a. inr (inr (inr a)))) (either (λ a. inr (inl (inr a))) (λ a. inr (inr (inl a)))) k)) (part_then right h)) left

pub put_test-returns-in_ok-right-in-Or : goal.put_test-returns-in_ok-right-in-Or
put_test-returns-in_ok-right-in-Or t c =
    let right = rw c.get-in-Or.ensures at c.in_ok-right-in-Or.ensures in
    let left = rw c.get-in-Or-2.ensures at c.put_test-in-Or-2.ensures in
    ok_map c.put_test-in-Or-2.result (λ b h.
    part_map (λ r gs f lo hi k. rw (c.in-Or.is, or_is) (c.in_ok-right-in-Or.right, k.0, k.1, k.2)) (λ r x g w k. rw (c.in-Or.is, or_is) (either (either (λ a. inr (inl (inr a))) (λ a. inr (inr (inr a)))) (either (λ a. inr (inl (inr a))) (λ a. inr (inr (inl a)))) k)) (part_then right h)) left

pub put_test-returns-in-empty : goal.put_test-returns-in-empty
put_test-returns-in-empty t c =
    let e = sym c.as_slice.ensures ∙ none_of c.as_slice.result.now (omega arith) in
    ok_map c.put_branches.result (λ b. part_map (λ r gs f lo hi h. let k = rw (c.in-Apply.is, apply_is, e) at h in rw (c.in-Apply.is, apply_is, e) (inl (negates_no_operand c.in-Apply.op, k))) (λ r x g w k. k)) c.put_branches.ensures

pub put_test-returns-then-negates : goal.put_test-returns-then-negates
put_test-returns-then-negates t c =
    let e = sym c.as_slice.ensures ∙ first_rest c.as_slice.result.now c.a-item.result (omega arith) c.a-item.is in
    let o = c.in-Apply.op in
    let s = c.args.scope.now in
    ok_map c.put_test-then-negates.result (λ b.
    part_map (λ r gs f lo hi h. rw (c.in-Apply.is, apply_is, e) (not_tests (program_of r) gs f s.locals (scope_of s) c.in-Apply.inner c.in-Apply.field-1 c.args.node o (expr_of r.sites c.a-item.result) _ (sym (c.negates.ensures r.sites _) ∙ c.if-negates.true) b c.args.m c.args.yes c.args.no lo hi h)) (λ r x g w k. rw (c.in-Apply.is, apply_is, e) (test_has x g w c.in-Apply.inner c.in-Apply.field-1 c.args.node o (expr_of r.sites c.a-item.result) _ (sym (c.negates.ensures r.sites _) ∙ c.if-negates.true) k))) c.put_test-then-negates.ensures

pub put_test-returns-else-negates : goal.put_test-returns-else-negates
put_test-returns-else-negates t c =
    let e = sym c.as_slice.ensures ∙ first_rest c.as_slice.result.now c.a-item.result (omega arith) c.a-item.is in
    ok_map c.put_branches-else-negates.result (λ b. part_map (λ r gs f lo hi h. let k = rw (c.in-Apply.is, apply_is, e) at h in rw (c.in-Apply.is, apply_is, e) (inl (sym (c.negates.ensures r.sites _) ∙ c.if-negates.false, k))) (λ r x g w k. k)) c.put_branches-else-negates.ensures

pub put_test-returns-in-Local : goal.put_test-returns-in-Local
put_test-returns-in-Local t c =
    ok_map c.put_branches-in-Local.result (λ b. part_map (λ r gs f lo hi h. let k = rw (c.in-Local.is, local_is) at h in rw (c.in-Local.is, local_is) k) (λ r x g w k. k)) c.put_branches-in-Local.ensures

pub put_test-returns-in-Constant : goal.put_test-returns-in-Constant
put_test-returns-in-Constant t c =
    ok_map c.put_branches-in-Constant.result (λ b. part_map (λ r gs f lo hi h. let k = rw (c.in-Constant.is, constant_is) at h in rw (c.in-Constant.is, constant_is) k) (λ r x g w k. k)) c.put_branches-in-Constant.ensures

pub put_test-returns-in-Display : goal.put_test-returns-in-Display
put_test-returns-in-Display t c =
    ok_map c.put_branches-in-Display.result (λ b. part_map (λ r gs f lo hi h. let k = rw (c.in-Display.is, display_is) at h in rw (c.in-Display.is, display_is) k) (λ r x g w k. k)) c.put_branches-in-Display.ensures

pub put_test-returns-in-Comprehension : goal.put_test-returns-in-Comprehension
put_test-returns-in-Comprehension t c =
    ok_map c.put_branches-in-Comprehension.result (λ b. part_map (λ r gs f lo hi h. let k = rw (c.in-Comprehension.is, comprehension_is) at h in rw (c.in-Comprehension.is, comprehension_is) k) (λ r x g w k. k)) c.put_branches-in-Comprehension.ensures

pub put_whole-returns : goal.put_whole-returns
put_whole-returns t c =
    ok_map c.put_expr.result (λ b h.
    part_map (λ r gs f lo hi k. (c.in_ok-truth.truth, k.0, k.1, k.2)) (λ r x g w k. k) (part_then c.in_ok-truth.ensures h)) c.put_expr.ensures

pub put_simple-returns-else-needs_sides : goal.put_simple-returns-else-needs_sides
put_simple-returns-else-needs_sides t c =
    ok_map c.put_whole.result (λ b. part_map (λ r gs f lo hi k. inl (k.0, k.1, sym (c.needs_sides.ensures r.sites) ∙ c.if-needs_sides.false, k.2, k.3)) (λ r x g w k. k)) c.put_whole.ensures

pub put_beside-returns-in_ok-truth-in-Compare : goal.put_beside-returns-in_ok-truth-in-Compare
put_beside-returns-in_ok-truth-in-Compare t c =
    let truth = rw (c.in_ok-place-in-Compare.ensures, c.len.ensures) at c.in_ok-truth-in-Compare.ensures in
    let sides = rw c.as_slice-es.ensures at c.put_sides.ensures in
    ok_map c.put_sides.result (λ b h.
    part_map (λ r gs f lo hi k. inr (c.in_ok-truth-in-Compare.truth, length c.in-Apply.es, k.0, k.1, rw (c.in-Apply.is, c.in-Compare.is, apply_is) k.2)) (λ r x g w k. rw (c.in-Apply.is, c.in-Compare.is, apply_is) (either (λ a. inl a) (either (λ a. inr (inl a)) (λ a. inr (inr (inr a)))) k)) (part_then truth h)) sides

pub put_sides-returns : goal.put_sides-returns
put_sides-returns t c =
    let block = rw (c.op_at.ensures, c.in_ok-args.ensures, c.in_ok-jump.ensures, c.in_ok-last.ensures) at c.in_ok-block.ensures in
    ok_map c.put_exprs.result (λ b h.
    part_map (λ r gs f lo hi k. (sym (count_is r.sites c.args.es.now), (c.in_ok-block.block, k.0, tt, k.1, k.2))) (λ r x g w k. k) (part_then block h)) c.put_exprs.ensures

-- ---- displays

pub put_display-returns : goal.put_display-returns
put_display-returns t c =
    let leaf = rw c.op_at.ensures at c.put_leaf.ensures in
    ok_map c.put_leaf.result (λ b h.
    part_map (λ r gs f lo hi k. (c.in_ok-next.next, c.in_ok-whole.whole, k.0, k.2.0, k.1, k.2.1, k.2.2)) (λ r x g w k. either (λ a. inl (inl a)) (either (either (λ a. inl (inr a)) (λ a. inr a)) (λ a. inl (inr (helps a)))) k)
    (part_then c.in_ok-whole.ensures (part_then c.in_ok-next.ensures h))) leaf

pub put_pairs-returns-in_ok-next-in-len1-up : goal.put_pairs-returns-in_ok-next-in-len1-up
put_pairs-returns-in_ok-next-in-len1-up t c =
    let e = first_rest c.args.pairs.now c.pair-item.result (omega arith) c.pair-item.is in
    ok_map c.put_pair.result (λ b h.
    part_map (λ r gs f lo hi k. rw e (k.2.0, k.2.1, c.in_ok-next-in-len1-up.next, k.0, k.2.2, k.2.3, k.1, k.2.4, k.2.5, k.2.6)) (λ r x g w k. rw e (either (either (λ a. inl a) (λ a. inr (inr (inr a)))) (either (λ a. inl a) (either (λ a. inr (inl a)) (λ a. inr (inr (inl a))))) k)) (part_then c.in_ok-next-in-len1-up.ensures h)) c.put_pair.ensures

pub put_pair-returns : goal.put_pair-returns
put_pair-returns t c =
    let same : c.args.m + 2 ≡ c.args.m + 1 + 1 = omega arith in
    let stored = rw (c.op_at-store.ensures, c.in_ok-args.ensures, c.in_ok-jump.ensures, c.in_ok-key.ensures, c.in_ok-value.ensures, c.in_ok-all.ensures) at c.in_ok-stored.ensures in
    let right = rw (c.in_ok-value.ensures, same) at c.in_ok-right.ensures in
    let left = rw c.in_ok-key.ensures at c.put_expr-2.ensures in
    ok_map c.put_expr-2.result (λ b h.
    part_map (λ r gs f lo hi k. (c.in_ok-right.right, c.in_ok-stored.stored, k.0, k.2.0, k.1, k.2.1, k.2.2)) (λ r x g w k. either (λ a. inl (helps a)) (either (λ a. inr (inr a)) (λ a. inr (inl a))) k)
    (part_then stored (part_then right h))) left

-- ---- walks

pub put_subject-returns-in_ok-walk-in-Over : goal.put_subject-returns-in_ok-walk-in-Over
put_subject-returns-in_ok-walk-in-Over t c =
    let walk = rw c.op_at-walk.ensures at c.in_ok-walk-in-Over.ensures in
    ok_map c.put_expr.result (λ b h.
    part_map (λ r gs f lo hi k. rw (c.in-Over.is, over_is) (c.in_ok-walk-in-Over.walk, c.in_ok-zero-in-Over.zero, k.0, k.2.0, k.1, k.2.1, k.2.2)) (λ r x g w k. rw (c.in-Over.is, over_is) (either (λ a. inl (helps a)) (either (λ a. inl (helps a)) (λ a. inr a)) k))
    (part_then c.in_ok-zero-in-Over.ensures (part_then walk h))) c.put_expr.ensures

pub put_subject-returns-in_ok-zero-in-UpTo : goal.put_subject-returns-in_ok-zero-in-UpTo
put_subject-returns-in_ok-zero-in-UpTo t c =
    ok_map c.put_expr-in-UpTo.result (λ b h.
    part_map (λ r gs f lo hi k. rw (c.in-UpTo.is, up_is) (c.in_ok-zero-in-UpTo.zero, k.0, k.1, k.2)) (λ r x g w k. rw (c.in-UpTo.is, up_is) (either (λ a. inl (helps a)) (λ a. inr a) k))
    (part_then c.in_ok-zero-in-UpTo.ensures h)) c.put_expr-in-UpTo.ensures

pub put_subject-returns-in_ok-right-in-FromTo : goal.put_subject-returns-in_ok-right-in-FromTo
put_subject-returns-in_ok-right-in-FromTo t c =
    ok_map c.put_expr-in-FromTo.result (λ b h.
    part_map (λ r gs f lo hi k. rw (c.in-FromTo.is, from_is) (c.in_ok-right-in-FromTo.right, c.in_ok-swap-in-FromTo.swap, k.0, k.2.0, k.1, k.2.1, k.2.2)) (λ r x g w k. rw (c.in-FromTo.is, from_is) (either (λ a. absurd a) (either (λ a. inr (inr a)) (λ a. inr (inl a))) k))
    (part_then c.in_ok-swap-in-FromTo.ensures (part_then c.in_ok-right-in-FromTo.ensures h))) c.put_expr-in-FromTo.ensures

-- ---- comprehensions

pub put_gather-returns-in-None : goal.put_gather-returns-in-None
put_gather-returns-in-None t c =
    let add = rw (c.op_at-of.ensures, c.in_ok-args.ensures, c.in_ok-jump.ensures, c.in_ok-more.ensures) at c.in_ok-add.ensures in
    part_map (λ r gs f lo hi k. rw c.in-None.is (c.in_ok-begin.begin, c.in_ok-add.add, k.0, hi, k.1, k.2, (refl, refl))) (λ r x g w k. either (λ a. inl (helps a)) (λ a. inr (inl a)) k) (part_then add c.in_ok-begin.ensures)

pub put_gather-returns-in-Some : goal.put_gather-returns-in-Some
put_gather-returns-in-Some t c =
    let add = rw (c.op_at-of.ensures, c.in_ok-args.ensures, c.in_ok-jump.ensures, c.in_ok-more.ensures) at c.in_ok-add.ensures in
    let test = rw c.get.ensures at c.put_test.ensures in
    ok_map c.put_test.result (λ b h.
    part_map (λ r gs f lo hi k. rw c.in-Some.is (c.in_ok-begin.begin, c.in_ok-add.add, k.0, k.2.0, k.1, k.2.1, k.2.2)) (λ r x g w k. rw c.in-Some.is (either (λ a. inl (helps a)) (either (λ a. inr (inl a)) (either (λ a. inl a) (λ a. inr (inr a)))) k))
    (part_then add (part_then c.in_ok-begin.ensures h))) test

pub put_comprehension-aim-requires : goal.put_comprehension-aim-requires
put_comprehension-aim-requires t c =
    kept _ _ (part_then c.in_ok-advance.ensures (part_then c.in_ok-gather.ensures (part_then c.in_ok-bind.ensures (part_then c.in_ok-whole.ensures c.in_ok-asked.ensures)))) c.in_ok-head.ensures.head

pub put_comprehension-returns : goal.put_comprehension-returns
put_comprehension-returns t c =
    let over = c.in_ok-over.ensures in
    let all = c.in_ok-plus.ensures in
    let advance = rw (all, over) at c.in_ok-advance.ensures in
    let gather = rw (all, over) at c.in_ok-gather.ensures in
    let bind = rw (c.in_ok-more.ensures, all, over) at c.in_ok-bind.ensures in
    let asked = rw (c.in_ok-done.ensures, all, over) at c.in_ok-asked.ensures in
    let head = rw (all, over) at c.in_ok-head.ensures.grows in
    let begin = rw over at c.in_ok-begin.ensures in
    let leaf = rw c.op_at-of.ensures at c.put_leaf.ensures in
    let turns = part_patch c.aim.new.self.blocks c.in_ok-head.head.base _ _ _ _ head (part_then advance (part_then gather (part_then bind (part_then c.in_ok-whole.ensures asked)))) c.in_ok-aim.ensures in
    ok_map c.put_leaf.result (λ b h.
    part_map (λ r gs f lo hi k.
    let t = k.1 in
    rw (is_plain_subject, ← c.step_of.ensures r.sites)
    (c.in_ok-begin.begin, c.in_ok-head.head.number, c.in_ok-asked.asked, c.in_ok-advance.advance, c.in_ok-gather.gather, c.in_ok-bind.bind, c.in_ok-whole.whole, t.0, t.2.0, t.2.2.0, t.2.2.2.0, t.2.2.2.2.0, k.0, k.2.0, t.1, t.2.1, t.2.2.1, t.2.2.2.1, t.2.2.2.2.1, t.2.2.2.2.2, k.2.1, k.2.2)) (λ r x g w k. either (either (λ a. inl (inr (helps a))) (either (either (λ a. inl (inr a)) (either (λ a. inr (inl a)) (λ a. inr (inr (inr (inr a)))))) (either (λ a. inr (inr (inl a))) (either (λ a. inl (inl a)) (λ a. inl (inr a)))))) (either (either (λ a. inl (inr a)) (λ a. inr (inr (inr (inl a))))) (λ a. inl (inr (helps a)))) k)
    (part_then turns (part_then begin h))) leaf

-- ---- targets

pub put_bind-returns : goal.put_bind-returns
put_bind-returns t c =
    ok_map c.put_take.result (λ b. part_map (λ r gs f lo hi h. h) (λ r x g w k. either (λ a. absurd a) (λ a. a) k)) (rw (c.variable-source.ensures.0, c.variable-source.ensures.1) at c.put_take.ensures)

pub put_take-returns-in_ok-_place-in-Name : goal.put_take-returns-in_ok-_place-in-Name
put_take-returns-in_ok-_place-in-Name t c =
    let lt = c.in_ok-_place-in-Name.ensures.within in
    let s = c.args.source.now in
    let m = c.args.m in
    ok_map c.put_name.result (λ b. part_map (λ r gs f lo hi h. rw (c.in-Name.is, name_is) (h.0, taken_place s.path s.at m, taken_count s.path m, h.1, lt, h.2, h.3)) (λ r x g w k. rw (c.in-Name.is, name_is) (either (λ a. inr a) (λ a. inl a) k))) c.put_name.ensures

pub put_take-returns-in_ok-begin-in-Attr : goal.put_take-returns-in_ok-begin-in-Attr
put_take-returns-in_ok-begin-in-Attr t c =
    let s = c.args.source.now in
    let more = c.args.m + 1 in
    let store = rw (c.in_ok-copy-in-Attr.ensures, c.in_ok-args-in-Attr.ensures, c.place_taken.ensures, c.in_ok-more-in-Attr.ensures) at c.in_ok-store-in-Attr.ensures in
    let begin = c.in_ok-begin-in-Attr.ensures in
    ok_map c.put_there.result (λ b h.
    part_map (λ r gs f lo hi k. rw (c.in-Attr.is, attr_is) (c.in_ok-begin-in-Attr.begin, c.in_ok-store-in-Attr.store, k.1.0, taken_place s.path s.at more, taken_count s.path more, k.1.1, k.0, k.2.0, k.1.2, k.1.3, k.2.1, k.2.2)) (λ r x g w k. rw (c.in-Attr.is, attr_is) (either (either (λ a. inr (inl a)) (λ a. inl a)) (either (λ a. inr (inr a)) (λ a. inl a)) k))
    (part_then store (part_then begin h))) c.put_there.ensures

pub put_take-returns-in-Item : goal.put_take-returns-in-Item
put_take-returns-in-Item t c =
    ok_map c.put_item.result (λ b. part_map (λ r gs f lo hi h. rw (c.in-Item.is, item_is) h) (λ r x g w k. rw (c.in-Item.is, item_is) k)) c.put_item.ensures

pub put_take-returns-in-Parts : goal.put_take-returns-in-Parts
put_take-returns-in-Parts t c =
    let e = rw c.as_slice.ensures at c.put_parts.ensures in
    ok_map c.put_parts.result (λ b. part_map (λ r gs f lo hi h. rw (c.in-Parts.is, parts_is) h) (λ r x g w k. rw (c.in-Parts.is, parts_is) k)) e

pub put_item-returns : goal.put_item-returns
put_item-returns t c =
    let s = c.args.source.now in
    let all = c.args.m + 2 in
    let store = rw (c.in_ok-args.ensures, c.place_taken.ensures, c.in_ok-index.ensures, c.in_ok-all.ensures) at c.in_ok-store.ensures in
    let right = rw c.in_ok-index.ensures at c.in_ok-right.ensures in
    let begin = c.in_ok-begin.ensures in
    ok_map c.put_there.result (λ b h.
    part_map (λ r gs f lo hi k. (c.in_ok-begin.begin, c.in_ok-right.right, c.in_ok-store.store, k.1.0, taken_place s.path s.at all, taken_count s.path all, k.1.1, k.0, k.2.0, k.2.2.0, k.1.2, k.1.3, k.2.1, k.2.2.1, k.2.2.2)) (λ r x g w k. either (either (λ a. inr (inl a)) (λ a. inl a)) (either (λ a. inr (inr (inr a))) (either (λ a. inr (inr (inl a))) (λ a. inl a))) k)
    (part_then store (part_then right (part_then begin h)))) c.put_there.ensures

pub put_parts-returns : goal.put_parts-returns
put_parts-returns t c =
    let s = c.args.source.now in
    let m = c.args.m in
    let end = rw c.in_ok-end.ensures at c.in_ok-end-2.ensures.put in
    let items = c.in_ok-begin.ensures in
    ok_map c.put_tuple.result (λ b h.
    part_map (λ r gs f lo hi k. (k.2.2.0, c.in_ok-begin.begin, c.in_ok-end-2.end, taken_place s.path s.at m, taken_count s.path m, k.0, k.2.0, k.2.2.1, k.1, rw parts_count k.2.1, k.2.2.2, k.2.2.3)) (λ r x g w k. either (λ a. absurd a) (either (either (λ a. inr (inl (inr a))) (either (λ a. inl a) (λ a. inr (inr a)))) (either (λ a. inr (inl (inl a))) (λ a. inl a))) k)
    (part_then end (part_then items h))) c.put_tuple.ensures

pub put_items-returns-in_ok-inner-in-len1-up : goal.put_items-returns-in_ok-inner-in-len1-up
put_items-returns-in_ok-inner-in-len1-up t c =
    let e = first_rest c.args.parts.now c.part-item.result (omega arith) c.part-item.is in
    let later = rw c.in_ok-later-in-len1-up.ensures at c.in_ok-next-in-len1-up.ensures in
    let inner = c.in_ok-inner-in-len1-up.ensures in
    ok_map c.put_take.result (λ b h.
    part_map (λ r gs f lo hi k.
    rw e (
      c.in_ok-next-in-len1-up.next,
      k.0,
      rw add-one at k.1,
      inner_binds c.args.scope.now c.part-item.result c.in_ok-inner-in-len1-up.inner c.args.source.now _ c.args.m c.args.m b c.in_ok-next-in-len1-up.next r gs f k.0 hi c.args.count c.args.place inner.0 inner.1 c.in_ok-narrow-in-len1-up.ensures
          c.in_ok-narrow-in-len1-up-2.ensures k.2,
    )) (λ r x g w k. rw e (either (either (λ a. inl a) (either (λ a. inr (inl a)) (λ a. inr (inr (inr a))))) (either (λ a. either (λ h. inl h) (λ h. inr (inl h)) (inner_path x g w c.args.source.now.path c.in_ok-inner-in-len1-up.inner.path _ inner.1 a)) (λ a. inr (inr (inl a)))) k)) (part_then later h)) c.put_take.ensures
