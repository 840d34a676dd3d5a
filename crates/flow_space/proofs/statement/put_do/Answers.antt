use Rattle.flow_space.proofs.Parts.{either, ok_map, part_map, part_then}
use Rattle.flow_space.proofs.statement.put_do.Goals as goal

pub returns : goal.returns
returns c =
    let out = rw (c.in_ok-jump.ensures, c.in_ok-more.ensures) at c.in_ok-drop.ensures.put in
    ok_map c.put_expr.result (λ b h. part_map (λ r gs f lo hi k. (c.in_ok-drop.drop, k.0, k.1, k.2)) (λ r x g w k. either (λ a. absurd a) (λ a. a) k) (part_then out h)) c.put_expr.ensures
