use Rattle.flow_space.proofs.statement.put_aim.Goals as goal

pub returns : goal.returns
returns c = rw c.in_ok-jump.ensures at c.put_jump.ensures.put
