use Rattle.std.proofs.Common.{inl, inr}
use Rattle.flow_space.proofs.Parts.{either, ok_map, part_map, part_then}
use Rattle.flow_space.proofs.statement.put_return.Goals as goal

pub returns : goal.returns
returns c = ok_map c.put_expr.result (λ b h. part_map (λ r gs f lo hi k. (c.in_ok-out.out, k.0, k.1, k.2)) (λ r x g w k. either (λ a. inl a) (λ a. inr a) k) (part_then c.in_ok-out.ensures h)) c.put_expr.ensures
