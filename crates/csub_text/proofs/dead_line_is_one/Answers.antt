use Rattle.csub_text.proofs.DeadLaws.{one_dead}
use Rattle.csub_text.proofs.dead_line_is_one.Goals as goal

pub returns : goal.returns
returns c = one_dead
