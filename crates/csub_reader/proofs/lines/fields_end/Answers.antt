use Rattle.csub_reader.proofs.Placed.{fields_ended}
use Rattle.csub_reader.proofs.lines.fields_end.Goals as goal

pub returns-clause-fits : goal.returns-clause-fits
returns-clause-fits c = fields_ended c.args.n c.args.k c.args.bytes.now c.struct_end.new.bytes c.struct_end.result c.struct_end.ensures.spelled
