use Rattle.block_laws.proofs.Branching.{branches_are_taken, flags_are_tests}
use Rattle.block_laws.proofs.laws.branches_are_taken.Goals as goal

pub returns-clause-taken : goal.returns-clause-taken
returns-clause-taken c = branches_are_taken

pub returns-clause-flags : goal.returns-clause-flags
returns-clause-flags c = flags_are_tests
