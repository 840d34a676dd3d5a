use Rattle.csub_reader.proofs.Placed.{past_prototypes}
use Rattle.csub_reader.proofs.lines.at_prototype.Goals as goal

pub returns-else-sees_prototype-clause-fits : goal.returns-else-sees_prototype-clause-fits
returns-else-sees_prototype-clause-fits c = past_prototypes c.args.n c.args.bytes.now c.at_static.new.bytes c.at_static.result c.at_static.ensures.fits
