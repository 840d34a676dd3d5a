use Rattle.ll_strings.proofs.Equal.{equal_is}
use Rattle.ll_strings.proofs.Ordered.{less_is}
use Rattle.ll_strings.proofs.laws.helpers_that_compare.Goals as goal

pub returns-clause-equal : goal.returns-clause-equal
returns-clause-equal c = equal_is

pub returns-clause-less : goal.returns-clause-less
returns-clause-less c = less_is
