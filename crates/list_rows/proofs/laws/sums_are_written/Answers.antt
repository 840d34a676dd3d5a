use Rattle.list_rows.proofs.Sums.{additions_are_written, products_are_written, sums_are_written}
use Rattle.list_rows.proofs.laws.sums_are_written.Goals as goal

pub returns-clause-sum : goal.returns-clause-sum
returns-clause-sum c = sums_are_written

pub returns-clause-product : goal.returns-clause-product
returns-clause-product c = products_are_written

pub returns-clause-addition : goal.returns-clause-addition
returns-clause-addition c = additions_are_written
