use Rattle.csub_reader.proofs.Placed.{first_block_placed}
use Rattle.csub_reader.proofs.lines.at_local.Goals as goal

pub returns-else-sees-clause-fits : goal.returns-else-sees-clause-fits
returns-else-sees-clause-fits c = first_block_placed c.args.n c.args.k c.args.bytes.now c.block_start.new.bytes c.block_start.result c.block_start.ensures.spelled
