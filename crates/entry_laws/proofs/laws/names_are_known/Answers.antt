use Rattle.entry_laws.proofs.Naming.{exceptions_are_laid, names_are_written, programs_have_their_names}
use Rattle.entry_laws.proofs.laws.names_are_known.Goals as goal

pub returns-clause-laid : goal.returns-clause-laid
returns-clause-laid c = exceptions_are_laid

pub returns-clause-names : goal.returns-clause-names
returns-clause-names c = names_are_written

pub returns-clause-meant : goal.returns-clause-meant
returns-clause-meant c = programs_have_their_names
