use Rattle.flow_space.proofs.statement.put_aim_and.Goals as goal

pub returns : goal.returns
returns c = rw (c.in_ok-jump.ensures, c.in_ok-more.ensures) at c.put_jump.ensures.put
