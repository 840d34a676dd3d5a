use Rattle.flow_space.proofs.Parts.{ok_map, part_map, part_then}
use Rattle.flow_space.proofs.statement.put_assign.Goals as goal

pub returns : goal.returns
returns c = ok_map c.put_expr.result (λ b h. part_map (λ r gs f lo hi k. (c.in_ok-bind.bind, k.0, k.1, k.2)) (λ r x g w k. k) (part_then c.in_ok-bind.ensures h)) c.put_expr.ensures
