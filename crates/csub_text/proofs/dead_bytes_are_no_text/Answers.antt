use Rattle.csub_text.proofs.DeadLaws.{dead_is_no_text}
use Rattle.csub_text.proofs.dead_bytes_are_no_text.Goals as goal

pub returns : goal.returns
returns c = dead_is_no_text
