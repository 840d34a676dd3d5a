use Rattle.flow_space.specs.Placed.{jump_of}
use Rattle.flow_space.proofs.Parts.{either, ok_map, part_map, part_then}
use Rattle.flow_space.proofs.expression.put_truth.Goals as goal

pub returns : goal.returns
returns c =
    let act = rw (c.op_at.ensures, c.in_ok-args.ensures, c.in_ok-jump.ensures, c.in_ok-truth.ensures) at c.put_op.ensures in
    let fork = rw (c.in_ok-all.ensures, c.in_ok-truth.ensures) at c.in_ok-fork.ensures in
    ok_map c.put_op.result (λ b h.
    part_map (λ r gs f lo hi k. (c.in_ok-fork.fork, jump_of c.in_ok-yes.yes, jump_of c.in_ok-no.no, k.0, k.2.0, k.2.2.0, k.1, k.2.1, k.2.2.1, k.2.2.2)) (λ r x g w k. either (λ a. a) (either (λ a. a) (either (λ a. absurd a) (λ a. (a.0, a.1)))) k)
    (part_then c.in_ok-yes.ensures (part_then c.in_ok-no.ensures (part_then fork h)))) act
