use Rattle.ll_helpers.specs.Helpers.{helpers}
use Rattle.rtyper_program.specs.Program.{world_behind}
use Rattle.program_asks.proofs.Passes.{asked_stand}
use Rattle.program_asks.proofs.WritingBlocks.{programs_only_ask}
use Rattle.program_asks.proofs.laws.small_graphs_stand.Goals as goal

pub returns : goal.returns
returns c = λ known classes layout needs caught count. asked_stand known classes layout needs caught count (programs_only_ask known (world_behind known classes layout (helpers layout.structs needs)))
