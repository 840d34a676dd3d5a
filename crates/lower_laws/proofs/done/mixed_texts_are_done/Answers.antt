use Rattle.lower_laws.proofs.Strung.{equal_is_strung, unequal_is_strung, less_is_strung, at_most_is_strung, greater_is_strung, at_least_is_strung, within_is_strung, outside_is_strung}
use Rattle.lower_laws.proofs.done.mixed_texts_are_done.Goals as goal

pub returns-clause-equal : goal.returns-clause-equal
returns-clause-equal c = equal_is_strung

pub returns-clause-unequal : goal.returns-clause-unequal
returns-clause-unequal c = unequal_is_strung

pub returns-clause-less : goal.returns-clause-less
returns-clause-less c = less_is_strung

pub returns-clause-at_most : goal.returns-clause-at_most
returns-clause-at_most c = at_most_is_strung

pub returns-clause-greater : goal.returns-clause-greater
returns-clause-greater c = greater_is_strung

pub returns-clause-at_least : goal.returns-clause-at_least
returns-clause-at_least c = at_least_is_strung

pub returns-clause-within : goal.returns-clause-within
returns-clause-within c = within_is_strung

pub returns-clause-outside : goal.returns-clause-outside
returns-clause-outside c = outside_is_strung
