use Rattle.rtyped_laws.proofs.Programs.{memory_begins_in_programs}
use Rattle.rtyped_laws.proofs.laws.memory_of_programs_begins.Goals as goal

pub returns : goal.returns
returns c = memory_begins_in_programs
