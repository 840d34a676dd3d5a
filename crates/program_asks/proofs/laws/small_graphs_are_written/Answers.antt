use Rattle.program_asks.proofs.Smalls.{smalls_stand}
use Rattle.program_asks.proofs.WritingBlocks.{small_of_grows}
use Rattle.program_asks.proofs.laws.small_graphs_are_written.Goals as goal

pub returns : goal.returns
returns c = λ world. smalls_stand world (small_of_grows world)
