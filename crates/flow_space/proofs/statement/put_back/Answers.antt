use Rattle.std.proofs.Common.{inl, inr}
use Rattle.flow_space.proofs.Parts.{ok_map, part_map}
use Rattle.flow_space.proofs.statement.put_back.Goals as goal

pub returns-then-ret-eq-RETURN : goal.returns-then-ret-eq-RETURN
returns-then-ret-eq-RETURN c = ok_map c.put_aim_and.result (λ b. part_map (λ r gs f lo hi h. inl (c.if-ret-eq-RETURN.true, h)) (λ r x g w k. absurd k)) c.put_aim_and.ensures

pub returns-else-ret-eq-RETURN : goal.returns-else-ret-eq-RETURN
returns-else-ret-eq-RETURN c = ok_map c.put_seen.result (λ b. part_map (λ r gs f lo hi h. inr h) (λ r x g w k. k)) c.put_seen.ensures
