use Rattle.lower_laws.proofs.Ordered.{less_is_followed, at_most_is_followed, greater_is_followed, at_least_is_followed, equal_is_followed}
use Rattle.lower_laws.proofs.Inline.{unequal_is_followed, range_has_is_followed}
use Rattle.lower_laws.proofs.laws.comparisons_are_followed.Goals as goal

pub returns-clause-less : goal.returns-clause-less
returns-clause-less c = less_is_followed

pub returns-clause-at_most : goal.returns-clause-at_most
returns-clause-at_most c = at_most_is_followed

pub returns-clause-greater : goal.returns-clause-greater
returns-clause-greater c = greater_is_followed

pub returns-clause-at_least : goal.returns-clause-at_least
returns-clause-at_least c = at_least_is_followed

pub returns-clause-equal : goal.returns-clause-equal
returns-clause-equal c = equal_is_followed

pub returns-clause-unequal : goal.returns-clause-unequal
returns-clause-unequal c = unequal_is_followed

pub returns-clause-range : goal.returns-clause-range
returns-clause-range c = range_has_is_followed
