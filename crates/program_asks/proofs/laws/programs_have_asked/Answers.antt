use Rattle.program_asks.specs.Standing.{world_in}
use Rattle.program_asks.proofs.Programs.{programs_have_asked}
use Rattle.program_asks.proofs.WritingBlocks.{programs_only_ask}
use Rattle.program_asks.proofs.laws.programs_have_asked.Goals as goal

pub returns : goal.returns
returns c = λ known classes layout p r. programs_have_asked known classes layout p r (programs_only_ask known (world_in known classes layout p r))
