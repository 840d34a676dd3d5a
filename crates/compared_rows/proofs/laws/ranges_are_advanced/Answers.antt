use Rattle.compared_rows.proofs.Advancing.{rising_written, falling_written}
use Rattle.compared_rows.proofs.laws.ranges_are_advanced.Goals as goal

pub returns-clause-rising : goal.returns-clause-rising
returns-clause-rising c = rising_written

pub returns-clause-falling : goal.returns-clause-falling
returns-clause-falling c = falling_written
