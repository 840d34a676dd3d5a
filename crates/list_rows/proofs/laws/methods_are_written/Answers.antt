use Rattle.list_rows.proofs.Methods.{extensions_are_written, pops_are_written, reversals_are_written}
use Rattle.list_rows.proofs.laws.methods_are_written.Goals as goal

pub returns-clause-reverse : goal.returns-clause-reverse
returns-clause-reverse c = reversals_are_written

pub returns-clause-extend : goal.returns-clause-extend
returns-clause-extend c = extensions_are_written

pub returns-clause-pop : goal.returns-clause-pop
returns-clause-pop c = pops_are_written
