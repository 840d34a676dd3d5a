use Rattle.flow_space.proofs.Parts.{helps, ok_map, part_map}
use Rattle.flow_space.proofs.statement.put_seen.Goals as goal

pub returns : goal.returns
returns c =
    let act = rw (c.op_at-of.ensures, c.in_ok-args.ensures, c.in_ok-seen.ensures, c.in_ok-jump.ensures, c.in_ok-more.ensures) at c.put_aside.ensures in
    ok_map c.put_aside.result (λ b. part_map (λ r gs f lo hi h. h) (λ r x g w k. helps k)) act
