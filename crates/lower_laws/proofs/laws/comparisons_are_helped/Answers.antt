use Rattle.lower_laws.proofs.Compared.{equal_is_helped, unequal_is_helped, less_is_helped, at_most_is_helped, greater_is_helped, at_least_is_helped, within_is_helped, outside_is_helped, truth_is_helped, untrue_is_helped}
use Rattle.lower_laws.proofs.laws.comparisons_are_helped.Goals as goal

pub returns-clause-equal : goal.returns-clause-equal
returns-clause-equal c = equal_is_helped

pub returns-clause-unequal : goal.returns-clause-unequal
returns-clause-unequal c = unequal_is_helped

pub returns-clause-less : goal.returns-clause-less
returns-clause-less c = less_is_helped

pub returns-clause-at_most : goal.returns-clause-at_most
returns-clause-at_most c = at_most_is_helped

pub returns-clause-greater : goal.returns-clause-greater
returns-clause-greater c = greater_is_helped

pub returns-clause-at_least : goal.returns-clause-at_least
returns-clause-at_least c = at_least_is_helped

pub returns-clause-within : goal.returns-clause-within
returns-clause-within c = within_is_helped

pub returns-clause-outside : goal.returns-clause-outside
returns-clause-outside c = outside_is_helped

pub returns-clause-truth : goal.returns-clause-truth
returns-clause-truth c = truth_is_helped

pub returns-clause-untrue : goal.returns-clause-untrue
returns-clause-untrue c = untrue_is_helped
