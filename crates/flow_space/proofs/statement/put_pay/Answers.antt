use Rattle.flow_space.proofs.statement.put_pay.Goals as goal

pub returns : goal.returns
returns c = rw (c.op_at.ensures, c.new-none.ensures, c.in_ok-jump.ensures) at c.put_op.ensures
