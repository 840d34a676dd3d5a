use Rattle.std.proofs.Common.{inl, inr}
use Rattle.flow_space.proofs.Parts.{either, ok_map, part_map, part_then}
use Rattle.flow_space.proofs.statement.put_augment_name.Goals as goal

pub returns : goal.returns
returns c =
    let lt = c.in_ok-place.ensures.within in
    let store = rw (c.op_at-of.ensures, c.in_ok-args.ensures, c.in_ok-jump.ensures, c.in_ok-more.ensures) at c.in_ok-store.ensures in
    let right = rw c.in_ok-more.ensures at c.in_ok-right.ensures in
    let copy = rw (c.op_at-of-2.ensures, c.in_ok-args-2.ensures, c.in_ok-jump-2.ensures, c.in_ok-place.ensures.place) at c.put_op-2.ensures in
    ok_map c.put_op-2.result (λ b h.
    part_map (λ r gs f lo hi k. (c.in_ok-right.right, c.in_ok-new.new, c.in_ok-store.store, k.0, k.2.0, k.2.2.0, lt, k.1, k.2.1, k.2.2.1, k.2.2.2)) (λ r x g w k. either (λ a. inr (inr (inl a))) (either (λ a. inl a) (either (λ a. inr (inr (inr a))) (λ a. inr (inl (a.0, a.1))))) k)
    (part_then store (part_then c.in_ok-new.ensures (part_then right h)))) copy
