use Rattle.std.proofs.Common.{arith, inl, inr}
use Rattle.flow_space.proofs.Items.{one_item, first_rest, rest_is, none_of}
use Rattle.flow_space.proofs.Parts.{either, ok_map, part_map, part_then}
use Rattle.flow_space.proofs.statement.+put_targets.Goals as goal

pub returns-in_ok-jump-in-empty : goal.returns-in_ok-jump-in-empty
returns-in_ok-jump-in-empty t c =
    let e = none_of c.args.targets.now (omega arith) in
    let out = rw (c.in_ok-jump-in-empty.ensures, c.in_ok-more.ensures) at c.put_jump.ensures.put in
    ok_map c.put_jump.result (λ b. part_map (λ r gs f lo hi h. rw e h) (λ r x g o k. absurd k)) out

pub returns-in-len1 : goal.returns-in-len1
returns-in-len1 t c =
    let e = one_item c.args.targets.now c.target-item.result (omega arith) (omega arith) c.target-item.is in
    let bind = rw c.in_ok-more.ensures at c.put_bind.ensures in
    ok_map c.put_bind.result (λ b. part_map (λ r gs f lo hi h. rw e h) (λ r x g o k. rw e (inl k))) bind

pub returns-in_ok-next-in-len1-up : goal.returns-in_ok-next-in-len1-up
returns-in_ok-next-in-len1-up t c =
    let e = first_rest c.args.targets.now c.target-item-2.result (omega arith) c.target-item-2.is in
    let w = rest_is c.args.targets.now (omega arith) in
    let bind = rw c.in_ok-more.ensures at c.put_bind-in-len1-up.ensures in
    let later = rw w.2 at c.in_ok-next-in-len1-up.ensures in
    ok_map c.put_bind-in-len1-up.result (λ b h.
    part_map (λ r gs f lo hi k. rw (e, w.2) (c.in_ok-next-in-len1-up.next, k.0, k.1, k.2)) (λ r x g o k. rw (e, w.2) (either (λ a. inr a) (λ a. inl a) k)) (part_then later h)) bind
