use Rattle.item_rows.proofs.Among.{found_are_written, missed_are_written}
use Rattle.item_rows.proofs.laws.memberships_are_written.Goals as goal

pub returns-clause-within : goal.returns-clause-within
returns-clause-within c = found_are_written

pub returns-clause-not_within : goal.returns-clause-not_within
returns-clause-not_within c = missed_are_written
