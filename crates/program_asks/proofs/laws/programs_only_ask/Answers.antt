use Rattle.program_asks.proofs.WritingBlocks.{programs_only_ask}
use Rattle.program_asks.proofs.laws.programs_only_ask.Goals as goal

pub returns : goal.returns
returns c = programs_only_ask
