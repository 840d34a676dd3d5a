use Rattle.csub_reader.proofs.Placed.{start_placed, include_placed, brace_placed, items_end_placed}
use Rattle.csub_reader.proofs.lines.read_line.Goals as goal

pub returns-in-Start-clause-fits : goal.returns-in-Start-clause-fits
returns-in-Start-clause-fits c = start_placed c.args.at c.args.bytes.now c.fixed.new.bytes c.fixed.result c.in-Start.is c.fixed.ensures.spelled

pub returns-in-Include-clause-fits : goal.returns-in-Include-clause-fits
returns-in-Include-clause-fits c = include_placed c.args.at c.args.bytes.now c.fixed-in-Include.new.bytes c.fixed-in-Include.result c.in-Include.is c.fixed-in-Include.ensures.spelled

pub returns-in-Items-clause-fits : goal.returns-in-Items-clause-fits
returns-in-Items-clause-fits c = items_end_placed c.args.at c.in-Items.n c.args.bytes.now c.struct_end.new.bytes c.struct_end.result c.in-Items.is c.struct_end.ensures.spelled

pub returns-in-Headed-clause-fits : goal.returns-in-Headed-clause-fits
returns-in-Headed-clause-fits c = brace_placed c.args.at c.in-Headed.n c.in-Headed.k c.args.bytes.now c.fixed-in-Headed.new.bytes c.fixed-in-Headed.result c.in-Headed.is c.fixed-in-Headed.ensures.spelled
