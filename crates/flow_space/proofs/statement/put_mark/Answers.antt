use Rattle.std.proofs.Common.{refl}
use Rattle.flow_space.proofs.Parts.{ok_map, part_map, part_none}
use Rattle.flow_space.proofs.statement.put_mark.Goals as goal

pub returns-in_ok-jump : goal.returns-in_ok-jump
returns-in_ok-jump c =
    let act = rw (c.op_at.ensures, c.new-none.ensures, c.in_ok-jump.ensures) at c.put_op.ensures in
    ok_map c.put_op.result (λ b. part_map (λ r gs f lo hi h. rw c.if-scope.true h) (λ r x g w k. (k.0, k.1))) act

pub returns-else-scope : goal.returns-else-scope
returns-else-scope c = part_none _ (λ r gs f lo. rw c.if-scope.false (refl, refl))
