use Rattle.tested_rows.proofs.Tests.{tests_are_answered}
use Rattle.tested_rows.proofs.laws.tests_are_answered.Goals as goal

pub returns : goal.returns
returns c = tests_are_answered
