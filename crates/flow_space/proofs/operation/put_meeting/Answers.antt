use Rattle.flow_space.proofs.operation.put_meeting.Goals as goal

pub returns : goal.returns
returns c = rw c.op_at.ensures at c.put_last.ensures
