use Rattle.entry_laws.proofs.Programs.{entries_stand, programs_have_entries}
use Rattle.entry_laws.proofs.laws.programs_have_entries.Goals as goal

pub returns-clause-stand : goal.returns-clause-stand
returns-clause-stand c = entries_stand

pub returns-clause-programs : goal.returns-clause-programs
returns-clause-programs c = programs_have_entries
