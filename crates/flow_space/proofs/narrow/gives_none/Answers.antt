use Rattle.std.proofs.Common.{sym}
use Rattle.flow_space.proofs.Narrows.{other_none}
use Rattle.flow_space.proofs.narrow.gives_none.Goals as goal

pub returns-in_default : goal.returns-in_default
returns-in_default c = λ node value es. sym (other_none c.args.op.now node value es c.in_default.not-None)
