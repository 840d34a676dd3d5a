use Rattle.names_forest.proofs.Places.{program_sites, meant_sites}
use Rattle.names_forest.proofs.laws.programs_have_a_site.Goals as goal

pub returns-clause-program : goal.returns-clause-program
returns-clause-program c = program_sites

pub returns-clause-meant : goal.returns-clause-meant
returns-clause-meant c = meant_sites
