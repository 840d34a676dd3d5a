use Rattle.value_rows.proofs.Single.{unaries, masks, bytes_numbered}
use Rattle.value_rows.proofs.laws.single_operations_are_written.Goals as goal

pub returns-clause-unaries : goal.returns-clause-unaries
returns-clause-unaries c = unaries

pub returns-clause-masks : goal.returns-clause-masks
returns-clause-masks c = masks

pub returns-clause-bytes : goal.returns-clause-bytes
returns-clause-bytes c = bytes_numbered
