use Rattle.csub_reader.proofs.Placed.{block_placed, function_ended}
use Rattle.csub_reader.proofs.lines.at_block.Goals as goal

pub returns-then-sees-clause-fits : goal.returns-then-sees-clause-fits
returns-then-sees-clause-fits c = block_placed c.args.n c.args.b c.args.bytes.now c.block_start.new.bytes c.block_start.result c.block_start.ensures.spelled

pub returns-else-sees-clause-fits : goal.returns-else-sees-clause-fits
returns-else-sees-clause-fits c = function_ended c.args.n c.args.b c.args.bytes.now c.function_end.new.bytes c.function_end.result c.function_end.ensures.spelled
