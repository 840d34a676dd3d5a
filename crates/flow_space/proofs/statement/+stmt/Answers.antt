use Rattle.std.proofs.Common.{refl, arith, inl, inr}
use Rattle.flow_trees.specs.Ops.{Helps}
use Rattle.flow_space.specs.Placed.{hands_of}
use Rattle.flow_space.proofs.Items.{first_rest, none_of}
use Rattle.flow_space.proofs.Noded.{if_is, while_is, for_is, try_is, finally_is, clause_is}
use Rattle.flow_space.proofs.Layers.{tried_covers}
use Rattle.flow_space.proofs.Parts.{either, ok_map, part_map, part_then, part_none, part_patch, kept}
use Rattle.flow_space.proofs.Plain.{is_plain_subject}
use Rattle.flow_space.proofs.statement.+stmt.Goals as goal

-- ---- loops

pub put_while-returns : goal.put_while-returns
put_while-returns t c =
    let begin = rw c.within.ensures at c.in_ok-begin.ensures in
    let whole = part_patch c.aim.new.self.blocks c.in_ok-head.head.base _ _ _ _ c.in_ok-head.ensures.grows (part_then begin (part_then c.in_ok-turn.ensures c.in_ok-asked.ensures)) c.in_ok-aim.ensures in
    part_map (λ r gs f lo hi k h. (c.in_ok-asked.asked, c.in_ok-turn.turn, c.in_ok-begin.begin, k.0, k.2.0, k.2.2.0, k.1, k.2.1 h, k.2.2.1, k.2.2.2)) (λ r x g w k. either (λ a. inr (inr a)) (either (λ a. inl (a.0, a.1)) (either (λ a. inl a) (λ a. inr (inl a)))) k) whole

pub put_while-aim-requires : goal.put_while-aim-requires
put_while-aim-requires t c = kept _ _ (part_then c.in_ok-begin.ensures (part_then c.in_ok-turn.ensures c.in_ok-asked.ensures)) c.in_ok-head.ensures.head

pub put_for-aim-requires : goal.put_for-aim-requires
put_for-aim-requires t c = kept _ _ (part_then c.in_ok-advance.ensures (part_then c.in_ok-begin.ensures (part_then c.in_ok-bind.ensures c.in_ok-asked.ensures))) c.in_ok-head.ensures.head

pub put_for-returns : goal.put_for-returns
put_for-returns t c =
    let all = c.in_ok-plus.ensures in
    let advance = rw all at c.in_ok-advance.ensures in
    let begin = rw (c.within.ensures, all) at c.in_ok-begin.ensures in
    let bind = rw (c.in_ok-more.ensures, all) at c.in_ok-bind.ensures in
    let asked = rw (c.in_ok-done.ensures, all) at c.in_ok-asked.ensures in
    let head = rw all at c.in_ok-head.ensures.grows in
    let turns = part_patch c.aim.new.self.blocks c.in_ok-head.head.base _ _ _ _ head (part_then advance (part_then begin (part_then bind asked))) c.in_ok-aim.ensures in
    ok_map c.put_subject.result (λ b s.
    part_map (λ r gs f lo hi k h.
    let t = k.1 in
    rw (is_plain_subject, ← c.step_of.ensures r.sites)
    (c.in_ok-head.head.number, c.in_ok-asked.asked, c.in_ok-advance.advance, c.in_ok-begin.begin, c.in_ok-bind.bind, t.0, t.2.0, t.2.2.0, t.2.2.2.0, k.0, t.1, t.2.1, t.2.2.1 h, t.2.2.2.1, t.2.2.2.2, k.2)) (λ r x g w k. either (either (λ a. inl (a.0, a.1)) (either (λ a. inr (inr (inr a))) (either (λ a. inr (inl a)) (λ a. inl a)))) (either (λ a. inl a) (λ a. inr (inr (inl a)))) k)
    (part_then turns s)) c.put_subject.ensures

-- ---- exceptions

pub put_clause-returns : goal.put_clause-returns
put_clause-returns t c = rw c.as_slice.ensures at c.put_block.ensures

pub put_clauses-returns-in_ok-hands-in-empty : goal.put_clauses-returns-in_ok-hands-in-empty
put_clauses-returns-in_ok-hands-in-empty t c =
    let e = none_of c.args.clauses.now (omega arith) in
    part_none _ (λ r gs f lo h. rw (e, c.in_ok-hands-in-empty.ensures, c.new.ensures, c.as_slice.ensures) (refl, refl, refl))

pub put_clauses-returns-then-clause : goal.put_clauses-returns-then-clause
put_clauses-returns-then-clause t c =
    let e = first_rest c.args.clauses.now c.clause-item.result (omega arith) c.clause-item.is in
    ok_map c.put_bare.result (λ caught w.
    part_map (λ r gs f lo hi k h. rw (e, clause_is, c.if-clause.true, w.0, w.1) (c.in_ok-begin-in-len1-up.begin, caught.default.to, k.0, w.2, refl, refl, k.1 h, k.2)) (λ r x g w k. rw (e, clause_is) (either (λ a. inl a) (λ a. absurd a) k)) (part_then c.in_ok-begin-in-len1-up.ensures w.3)) c.put_bare.ensures

pub put_clauses-returns-in_ok-others-in-len1-up : goal.put_clauses-returns-in_ok-others-in-len1-up
put_clauses-returns-in_ok-others-in-len1-up t c =
    let e = first_rest c.args.clauses.now c.clause-item.result (omega arith) c.clause-item.is in
    ok_map c.with_clause.result (λ caught w.
    part_map (λ r gs f lo hi k h. rw (e, clause_is, c.if-clause.false, w.1) (c.in_ok-begin-in-len1-up.begin, k.0, hands_of c.in_ok-others-in-len1-up.others.hands, w.2, w.0, k.1 h, k.2 h)) (λ r x g w k. rw (e, clause_is) k) (part_then c.in_ok-begin-in-len1-up.ensures c.in_ok-others-in-len1-up.ensures)) c.with_clause.ensures

pub put_try-returns : goal.put_try-returns
put_try-returns t c =
    let body = rw c.on.ensures at c.put_block-2.ensures in
    ok_map c.put_block-2.result (λ b s.
    part_map (λ r gs f lo hi k h node.
    let cov = tried_covers r c.args.program.now c.args.clauses.now c.args.scope.now.covers _ h c.covers_of.ensures in
    let inside = rw cov at (k.2.2 h) in
    (c.in_ok-after.after, k.0, k.2.0, _, _, k.1 h, k.2.1 h, inside)) (λ r x g w k. either (λ a. inr (inr a)) (either (λ a. inr (inl a)) (λ a. inl a)) k)
    (part_then c.in_ok-after.ensures (part_then c.in_ok-caught.ensures s))) body

pub put_left-returns : goal.put_left-returns
put_left-returns t c =
    let begin = rw c.on.ensures at c.in_ok-begin.ensures in
    (refl, part_map (λ r gs f lo hi k h. (c.in_ok-out.out, k.0, k.1, k.2 h)) (λ r x g w k. either (λ a. absurd a) (λ a. a) k) (part_then c.in_ok-out.ensures begin))

pub put_returned-returns : goal.put_returned-returns
put_returned-returns t c =
    let begin = rw (c.on.ensures, c.in_ok-more.ensures) at c.in_ok-begin.ensures in
    (refl, part_map (λ r gs f lo hi k h. (c.in_ok-out.out, k.0, k.1, k.2 h)) (λ r x g w k. either (λ a. absurd a) (λ a. a) k) (part_then c.in_ok-out.ensures begin))

pub put_raised-returns : goal.put_raised-returns
put_raised-returns t c =
    let out = rw (c.op_at-of.ensures, c.in_ok-args.ensures, c.in_ok-jump.ensures, c.in_ok-more.ensures) at c.in_ok-out.ensures in
    let begin = rw (c.on.ensures, c.in_ok-more.ensures) at c.in_ok-begin.ensures in
    (refl, part_map (λ r gs f lo hi k h. (c.in_ok-out.out, k.0, k.1, k.2 h)) (λ r x g w k. either (λ a. inl (a.0, a.1)) (λ a. inr a) k) (part_then out begin))

pub put_finally-returns : goal.put_finally-returns
put_finally-returns t c =
    let body = rw (c.in_ok-brk.ensures.0, c.in_ok-cont.ensures.0, c.in_ok-ret.ensures.0, c.in_ok-default.ensures.0, c.new.ensures) at c.put_block-2.ensures in
    ok_map c.put_block-2.result (λ b s.
    part_map (λ r gs f lo hi k h.
    let brk = k.2.1 h in
    let cont = k.2.2.1 h in
    let ret = k.2.2.2.1 h in
    let exc = k.2.2.2.2.1 h in (
      c.in_ok-norm.norm,
      c.in_ok-brk.brk.to,
      c.in_ok-cont.cont.to,
      c.in_ok-ret.ret.to,
      c.in_ok-default.default.to,
      brk.0,
      cont.0,
      ret.0,
      exc.0,
      k.0,
      brk.1,
      k.2.0,
      cont.1,
      k.2.2.0,
      ret.1,
      k.2.2.2.0,
      exc.1,
      k.2.2.2.2.0,
      k.1 h,
      brk.2,
      brk.3,
      cont.2,
      cont.3,
      ret.2,
      ret.3,
      exc.2,
      exc.3,
      k.2.2.2.2.2 h,
    )) (λ r x g w k. either (λ a. inr (inr a)) (either (λ a. inr (inr a)) (either (λ a. inr (inr a)) (either (λ a. inr (inr a)) (either (either (λ a. inl a) (λ a. inr (inr a))) (λ a. inr (inl a)))))) k)
    (part_then c.in_ok-norm.ensures (part_then c.in_ok-brk.ensures.1 (part_then c.in_ok-cont.ensures.1 (part_then c.in_ok-ret.ensures.1 (part_then c.in_ok-default.ensures.1 s)))))) body

-- ---- all statements

pub put_if-returns : goal.put_if-returns
put_if-returns t c =
    ok_map c.put_test.result (λ b s.
    part_map (λ r gs f lo hi k h. (c.in_ok-yes.yes, c.in_ok-no.no, k.0, k.2.0, k.1 h, k.2.1 h, k.2.2)) (λ r x g w k. either (λ a. inr (inr (inr a))) (either (λ a. inr (inr (inl a))) (either (λ a. inl a) (λ a. inr (inl a)))) k) (part_then c.in_ok-no.ensures (part_then c.in_ok-yes.ensures s))) c.put_test.ensures

pub put_stmt-returns-in-If : goal.put_stmt-returns-in-If
put_stmt-returns-in-If t c =
    let e = rw (c.as_slice.ensures, c.as_slice-in-If.ensures) at c.put_if.ensures in
    ok_map c.put_if.result (λ b. part_map (λ r gs f lo hi k h. rw (c.in-If.is, if_is) (k h)) (λ r x g w k. rw (c.in-If.is, if_is) k)) e

pub put_stmt-returns-in-While : goal.put_stmt-returns-in-While
put_stmt-returns-in-While t c =
    let e = rw c.as_slice-in-While.ensures at c.put_while.ensures in
    ok_map c.put_while.result (λ b. part_map (λ r gs f lo hi k h. rw (c.in-While.is, while_is) (k h)) (λ r x g w k. rw (c.in-While.is, while_is) k)) e

pub put_stmt-returns-in-For : goal.put_stmt-returns-in-For
put_stmt-returns-in-For t c =
    let e = rw (c.get.ensures, c.get-in-For.ensures, c.as_slice-in-For.ensures) at c.put_for.ensures in
    ok_map c.put_for.result (λ b. part_map (λ r gs f lo hi k h. rw (c.in-For.is, for_is) (k h)) (λ r x g w k. rw (c.in-For.is, for_is) k)) e

pub put_stmt-returns-in-Try : goal.put_stmt-returns-in-Try
put_stmt-returns-in-Try t c =
    let e = rw (c.as_slice-in-Try.ensures, c.as_slice-in-Try-2.ensures, c.as_slice-in-Try-3.ensures) at c.put_try.ensures in
    ok_map c.put_try.result (λ b. part_map (λ r gs f lo hi k h. rw (c.in-Try.is, try_is) (k h 0)) (λ r x g w k. rw (c.in-Try.is, try_is) (inr k))) e

pub put_stmt-returns-in-Finally : goal.put_stmt-returns-in-Finally
put_stmt-returns-in-Finally t c =
    let e = rw (c.as_slice-in-Finally.ensures, c.as_slice-in-Finally-2.ensures) at c.put_finally.ensures in
    ok_map c.put_finally.result (λ b. part_map (λ r gs f lo hi k h. rw (c.in-Finally.is, finally_is) (k h)) (λ r x g w k. rw (c.in-Finally.is, finally_is) k)) e

pub put_stmt-returns-in_default : goal.put_stmt-returns-in_default
put_stmt-returns-in_default t c = ok_map c.put_simple.result (λ b. part_map (λ r gs f lo hi k h. k) (λ r x g w k. k)) c.put_simple.ensures

pub put_block-returns-in-empty : goal.put_block-returns-in-empty
put_block-returns-in-empty t c =
    let e = none_of c.args.body.now (omega arith) in
    part_none _ (λ r gs f lo h. rw e (refl, refl))

pub put_block-returns-in_ok-begin-in-len1-up : goal.put_block-returns-in_ok-begin-in-len1-up
put_block-returns-in_ok-begin-in-len1-up t c =
    let e = first_rest c.args.body.now c.s-item.result (omega arith) c.s-item.is in
    let begin = rw c.on.ensures at c.in_ok-begin-in-len1-up.ensures in
    ok_map c.put_mark-in-len1-up.result (λ b s.
    part_map (λ r gs f lo hi k h.
    let before = rw (c.node_of-in-len1-up.ensures r.sites) at k.2.2.2 in
    let behind = rw (c.node_of.ensures r.sites) at k.2.1 in
    rw e (c.in_ok-begin-in-len1-up.begin, c.in_ok-next-in-len1-up-2.next, c.in_ok-next-in-len1-up.next, k.0, k.2.0, k.2.2.0, k.1 h, behind, k.2.2.1 h, before)) (λ r x g w k. rw e (either (λ a. inr (inr a)) (either (λ (a : Helps x g w c.node_of.result). inl (rw (c.node_of.ensures r.sites) at a)) (either (either (λ a. inl a) (λ a. inr (inl a))) (λ (a : Helps x g w c.node_of-in-len1-up.result). inl (rw (c.node_of-in-len1-up.ensures r.sites) at a)))) k))
    (part_then c.in_ok-next-in-len1-up.ensures (part_then c.in_ok-next-in-len1-up-2.ensures (part_then begin s)))) c.put_mark-in-len1-up.ensures
