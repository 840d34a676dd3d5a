use Rattle.csub_reader.proofs.Placed.{past_statics}
use Rattle.csub_reader.proofs.lines.at_static.Goals as goal

pub returns-else-sees-clause-fits : goal.returns-else-sees-clause-fits
returns-else-sees-clause-fits c = past_statics c.args.n c.args.bytes.now c.at_function.new.bytes c.at_function.result c.at_function.ensures.fits
