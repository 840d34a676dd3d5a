use Rattle.flow_space.proofs.Parts.{either, ok_map, part_map, part_then}
use Rattle.flow_space.proofs.walk.put_turn.Goals as goal

pub returns : goal.returns
returns c =
    let item = rw (c.op_at-of.ensures, c.in_ok-args.ensures, c.in_ok-jump.ensures, c.in_ok-at.ensures) at c.in_ok-item.ensures in
    let paid = rw (c.op_at-of-2.ensures, c.new-none.ensures, c.in_ok-jump-2.ensures) at c.in_ok-paid.ensures in
    let fork = rw (c.in_ok-more.ensures, c.in_ok-yes.ensures) at c.in_ok-fork.ensures in
    let begin = rw (c.op_at-of-3.ensures, c.in_ok-args-2.ensures, c.in_ok-jump-3.ensures, c.in_ok-at.ensures) at c.put_op-3.ensures in
    ok_map c.put_op-3.result (λ b h.
    part_map (λ r gs f lo hi k. (c.in_ok-fork.fork, c.in_ok-paid.paid, c.in_ok-item.item, k.0, k.2.0, k.2.2.0, k.1, k.2.1, k.2.2.1, k.2.2.2)) (λ r x g w k. either (λ a. (a.0, a.1)) (either (λ a. (a.0, a.1)) (either (λ a. absurd a) (λ a. (a.0, a.1)))) k)
    (part_then item (part_then paid (part_then fork h)))) begin
