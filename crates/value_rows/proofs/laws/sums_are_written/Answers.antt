use Rattle.value_rows.proofs.Numbers.{sums, products, added}
use Rattle.value_rows.proofs.laws.sums_are_written.Goals as goal

pub returns-clause-sums : goal.returns-clause-sums
returns-clause-sums c = sums

pub returns-clause-products : goal.returns-clause-products
returns-clause-products c = products

pub returns-clause-added : goal.returns-clause-added
returns-clause-added c = added
