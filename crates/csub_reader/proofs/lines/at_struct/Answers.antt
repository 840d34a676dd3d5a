use Rattle.csub_reader.proofs.Placed.{past_structs}
use Rattle.csub_reader.proofs.lines.at_struct.Goals as goal

pub returns-else-sees-clause-fits : goal.returns-else-sees-clause-fits
returns-else-sees-clause-fits c = past_structs c.args.n c.args.bytes.now c.at_prototype.new.bytes c.at_prototype.result c.at_prototype.ensures.fits
