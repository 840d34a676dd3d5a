use Rattle.std.proofs.Common.{◌≡◌, ◌+◌, arith, inl, inr}
use Rattle.flow_space.proofs.Parts.{either, ok_map, part_map, part_then}
use Rattle.flow_space.proofs.statement.put_augment_item.Goals as goal

pub returns : goal.returns
returns c =
    let same : c.args.m + 3 ≡ c.args.m + 2 + 1 = omega arith in
    let store = rw (c.op_at-of.ensures, c.in_ok-args.ensures, c.in_ok-jump.ensures, c.in_ok-index.ensures, c.in_ok-old.ensures, c.in_ok-right.ensures) at c.in_ok-store.ensures in
    let new = rw c.in_ok-old.ensures at c.in_ok-new.ensures in
    let value = rw (c.in_ok-right.ensures, same) at c.in_ok-value.ensures in
    let read = rw (c.op_at-of-2.ensures, c.in_ok-args-2.ensures, c.in_ok-jump-2.ensures, c.in_ok-index.ensures, c.in_ok-old.ensures) at c.in_ok-read.ensures in
    let place = rw c.in_ok-index.ensures at c.in_ok-place.ensures in
    ok_map c.put_expr-3.result (λ b h.
    part_map (λ r gs f lo hi k. (c.in_ok-place.place, c.in_ok-read.read, c.in_ok-value.value, c.in_ok-new.new, c.in_ok-store.store, k.0, k.2.0, k.2.2.0, k.2.2.2.0, k.2.2.2.2.0, k.1, k.2.1, k.2.2.1, k.2.2.2.1, k.2.2.2.2.1, k.2.2.2.2.2)) (λ r x g w k. either (λ a. inr (inr (inl (inl a)))) (either (λ a. inl a) (either (λ a. inr (inr (inr a))) (either (λ a. inr (inl (a.0, a.1))) (either (λ a. inr (inr (inl (inr (inr a))))) (λ a. inr (inr (inl (inr (inl a))))))))) k)
    (part_then store (part_then new (part_then value (part_then read (part_then place h)))))) c.put_expr-3.ensures
