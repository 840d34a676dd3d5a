use Rattle.compared_rows.proofs.Orders.{lesser, at_most, greater, at_least}
use Rattle.compared_rows.proofs.laws.orders_are_written.Goals as goal

pub returns-clause-less : goal.returns-clause-less
returns-clause-less c = lesser

pub returns-clause-at_most : goal.returns-clause-at_most
returns-clause-at_most c = at_most

pub returns-clause-greater : goal.returns-clause-greater
returns-clause-greater c = greater

pub returns-clause-at_least : goal.returns-clause-at_least
returns-clause-at_least c = at_least
