use Rattle.names_whole.proofs.Program.{prog_is, answer_is}
use Rattle.names_whole.proofs.laws.program_follows_the_rules.Goals as goal

pub returns-clause-program : goal.returns-clause-program
returns-clause-program c = prog_is

pub returns-clause-answer : goal.returns-clause-answer
returns-clause-answer c = answer_is
