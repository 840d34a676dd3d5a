use Rattle.flow_space.proofs.Parts.{ok_map, part_map, part_then}
use Rattle.flow_space.proofs.source.put_name.Goals as goal

pub returns : goal.returns
returns c =
    let act = rw (c.op_at.ensures, c.in_ok-args.ensures, c.place_taken.ensures, c.in_ok-jump.ensures, c.in_ok-all.ensures) at c.in_ok-copy.ensures in
    ok_map c.put_taken.result (λ b h. part_map (λ r gs f lo hi k. (c.in_ok-copy.copy, k.0, k.1, k.2)) (λ r x g w k. k) (part_then act h)) c.put_taken.ensures
