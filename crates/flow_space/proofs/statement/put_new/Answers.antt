use Rattle.flow_space.proofs.Parts.{ok_map, part_map}
use Rattle.flow_space.proofs.statement.put_new.Goals as goal

pub returns : goal.returns
returns c =
    let act = rw (c.op_at-of.ensures, c.in_ok-copy_op.ensures, c.in_ok-args.ensures, c.in_ok-jump.ensures, c.in_ok-right.ensures, c.in_ok-all.ensures) at c.put_op.ensures in
    ok_map c.put_op.result (λ b. part_map (λ r gs f lo hi h. h) (λ r x g w k. (k.0, k.1))) act
